-- What a run leaves of the file of a house.
use Rattle.std.specs.Prelude.{⊤, Option, Some, None}
use Rattle.auction.specs.declared.remains.Remains.{Remains}
use Rattle.auction.specs.declared.remains.Remains.TheVariants.{Unopened, Refused, Ended}

-- what is left of a keep that was ended
abbrev pub left_of : {R L : Type 0} → Remains R L → Option L
left_of Unopened = None
left_of (Refused rest) = None
left_of (Ended left) = Some left

-- a keep was ended, and this is so of what is left of it
abbrev pub IsEndedWith : {L : Type 0} → (L → Type 0) → Option L → Type 0
IsEndedWith P None = ⊥
IsEndedWith P (Some left) = P left

-- and that is what remains
abbrev pub IsEndedAs : {R L : Type 0} → (L → Type 0) → Remains R L → Type 0
IsEndedAs P remains = IsEndedWith P (left_of remains)

-- this is so of what is left where the file was opened: the one where no keep was, and the other
-- where one was
abbrev pub IsLeftAs : {R L : Type 0} → (R → Type 0) → (L → Type 0) → Remains R L → Type 0
IsLeftAs P Q Unopened = ⊤
IsLeftAs P Q (Refused rest) = P rest
IsLeftAs P Q (Ended left) = Q left

-- what is left of a file that may have been opened, in which no keep was
abbrev pub remains_of : {R L : Type 0} → Option R → Remains R L
remains_of None = Unopened
remains_of (Some rest) = Refused rest
