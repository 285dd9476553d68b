-- The count of accepted writes. Assumes nothing.
use Rattle.std.specs.Prelude.{ℕ, ◌+◌, ◌-◌, ◌^◌, min, Ok, Err, Result}
use Rattle.block.specs.declared.refusal.Refusal.{Refusal}

-- One more, up to the greatest number of 64 bits.
abbrev pub one_more : ℕ → ℕ
one_more n = min (n + 1) (2 ^ 64 - 1)

-- The count after a write that was answered so: an accepted write is counted, a refused one is not.
abbrev pub count_after : {T : Type 0} → Result T Refusal → ℕ → ℕ
count_after (Ok t) n = one_more n
count_after (Err e) n = n
