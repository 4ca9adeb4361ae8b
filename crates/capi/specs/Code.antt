-- What the code's reply and refusal stand for.
use Rattle.std.specs.Prelude.{◌∷◌}
use Rattle.form.specs.Refusals as F
use Rattle.capi.specs.Replies.{Reply}
use Rattle.capi.specs.declared.replies.Reply as C
use Rattle.capi.specs.declared.refusals.Refusal.{Refusal}
use Rattle.capi.specs.declared.refusals.Refusal.TheVariants.{Eof, InvalidRgb, LongString, WideLookup, ReservedId, NoRoom, BufferTooSmall, ReadFailed, BadPlace, TooLong, ListFull, BadIndex}

abbrev pub as_reply : C.Reply → Reply
as_reply x = record { code = x.code; words = x.at ∷ x.words }

abbrev pub refusal_as : Refusal → F.Refusal
refusal_as (Eof p m) = F.Eof p m
refusal_as (InvalidRgb p) = F.InvalidRgb p
refusal_as (LongString p) = F.LongString p
refusal_as (WideLookup p) = F.WideLookup p
refusal_as (ReservedId p) = F.ReservedId p
refusal_as (NoRoom n) = F.NoRoom n
refusal_as (BufferTooSmall p) = F.BufferTooSmall p
refusal_as (ReadFailed p) = F.ReadFailed p
refusal_as (BadPlace p) = F.BadPlace p
refusal_as (TooLong n) = F.TooLong n
refusal_as (ListFull n) = F.ListFull n
refusal_as BadIndex = F.BadIndex
