-- A value's seven words. Assumes nothing.
use Rattle.std.proofs.Common.{ℕ, ◌≡◌, refl, List, [], ◌∷◌, get_or}
use Rattle.capi.specs.Replies.{padded}

-- the first six of them
pub first_six : (ws : List ℕ) → ◌≡◌ {A = List ℕ} (get_or (padded 7 ws) 0 0 ∷ get_or (padded 7 ws) 1 0 ∷ get_or (padded 7 ws) 2 0 ∷ get_or (padded 7 ws) 3 0 ∷ get_or (padded 7 ws) 4 0 ∷ get_or (padded 7 ws) 5 0 ∷ []) (padded 6 ws)
first_six [] = refl
first_six (a ∷ []) = refl
first_six (a ∷ b ∷ []) = refl
first_six (a ∷ b ∷ c ∷ []) = refl
first_six (a ∷ b ∷ c ∷ d ∷ []) = refl
first_six (a ∷ b ∷ c ∷ d ∷ e ∷ []) = refl
first_six (a ∷ b ∷ c ∷ d ∷ e ∷ f ∷ []) = refl
first_six (a ∷ b ∷ c ∷ d ∷ e ∷ f ∷ g ∷ ws) = refl
