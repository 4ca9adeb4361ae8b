-- The refusals: FORMAT.md's table, in its order.
use Rattle.std.specs.Prelude.{ℕ, Bool, true, false, List, [], ◌∷◌, get_or}

-- each with what is returned with it
pub data Refusal : Type 0 where
  -- the position, and how many bytes are missing there
  Eof : ℕ → ℕ → Refusal
  -- the position
  InvalidRgb : ℕ → Refusal
  -- the token's position; for the writer 0
  LongString WideLookup ReservedId : ℕ → Refusal
  -- the bytes needed
  NoRoom : ℕ → Refusal
  -- the position
  BufferTooSmall ReadFailed : ℕ → Refusal
  -- the place given
  BadPlace : ℕ → Refusal
  -- the input's length, or the number of entries
  TooLong : ℕ → Refusal
  -- the number of entries needed
  ListFull : ℕ → Refusal
  -- nothing
  BadIndex : Refusal

-- its number there
unfoldable pub refusal_number : Refusal → ℕ
refusal_number (Eof p m) = 1
refusal_number (InvalidRgb p) = 2
refusal_number (LongString p) = 31
refusal_number (WideLookup p) = 32
refusal_number (ReservedId p) = 33
refusal_number (NoRoom n) = 4
refusal_number (BufferTooSmall p) = 5
refusal_number (ReadFailed p) = 6
refusal_number (BadPlace p) = 7
refusal_number (TooLong n) = 8
refusal_number (ListFull n) = 10
refusal_number BadIndex = 11

-- what is returned with it
unfoldable pub refusal_values : Refusal → List ℕ
refusal_values (Eof p m) = p ∷ m ∷ []
refusal_values (InvalidRgb p) = p ∷ []
refusal_values (LongString p) = p ∷ []
refusal_values (WideLookup p) = p ∷ []
refusal_values (ReservedId p) = p ∷ []
refusal_values (NoRoom n) = n ∷ []
refusal_values (BufferTooSmall p) = p ∷ []
refusal_values (ReadFailed p) = p ∷ []
refusal_values (BadPlace p) = p ∷ []
refusal_values (TooLong n) = n ∷ []
refusal_values (ListFull n) = n ∷ []
refusal_values BadIndex = []

-- the first of that, which a line shows
unfoldable pub refusal_value : Refusal → ℕ
refusal_value r = get_or (refusal_values r) 0 0

-- too few bytes
unfoldable pub is_eof : Refusal → Bool
is_eof (Eof p m) = true
is_eof (InvalidRgb p) = false
is_eof (LongString p) = false
is_eof (WideLookup p) = false
is_eof (ReservedId p) = false
is_eof (NoRoom n) = false
is_eof (BufferTooSmall p) = false
is_eof (ReadFailed p) = false
is_eof (BadPlace p) = false
is_eof (TooLong n) = false
is_eof (ListFull n) = false
is_eof BadIndex = false

-- what is wrong with bytes, wherever they stand: so many are missing, or a colour is none
pub data Fault : Type 0 where
  too_short : ℕ → Fault
  bad_colour : Fault

-- the refusal of a fault, at a position
unfoldable pub refusal_at : ℕ → Fault → Refusal
refusal_at p (too_short m) = Eof p m
refusal_at p bad_colour = InvalidRgb p
