-- What `ok` and the exit of a `?` keep of an answer. Assumes nothing.
use mathlib.Core.Path.{◌≡◌, ap, sym, ◌∙◌}
use Rattle.std.specs.Prelude.{Result, Ok, Err, Some, None}
use Rattle.std.specs.Result.{result_ok}
use Rattle.laws.proofs.Never.{never}

-- what is said of the answer r, by its value
pub ok_of : {T E B : Type 0} (g : Result T E → B) (r : Result T E) {x : T} {b : B} → Some x ≡ result_ok r → g r ≡ b → b ≡ g (Ok x)
ok_of g (Ok y) {x} e q = let k : x ≡ y = cc in sym q ∙ ap (λ z. g (Ok z)) (sym k)
ok_of g (Err y) e q = never (cc)

-- or by its error
pub err_of : {T E B : Type 0} (g : Result T E → B) (r : Result T E) {b : B} → None ≡ result_ok r → g r ≡ b → (e : E) × (b ≡ g (Err e))
err_of g (Ok y) e q = never (cc)
err_of g (Err y) e q = (y, sym q)
