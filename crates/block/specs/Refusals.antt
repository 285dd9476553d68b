-- The number of each refusal.
use Rattle.std.specs.Prelude.{ℕ}
use Rattle.block.specs.declared.refusal.Refusal.{Refusal}
use Rattle.block.specs.declared.refusal.Refusal.TheVariants.{
  Length,
  Shape,
  Address,
  Place,
  NoOwner,
  SlotState,
  TableFull,
  Lost,
  OtherOwner,
  VersionLimit,
}

abbrev pub number_of : Refusal → ℕ
number_of Length = 1
number_of Shape = 2
number_of Address = 3
number_of Place = 4
number_of NoOwner = 5
number_of SlotState = 6
number_of TableFull = 7
number_of Lost = 8
number_of OtherOwner = 9
number_of VersionLimit = 10
