-- The law over runs.
use Rattle.std.specs.Prelude.{Ok, Err}
use Rattle.std.proofs.Common.{◌≡◌, ℕ, zero, suc, ◌+◌, ◌^◌, ◌<◌, true, cond, get_or, set, replicate, refl, subst, pow_pos}
use lib.ListN.{length-replicate}
use Rattle.std.proofs.lemmas.Bool.{cond-true}
use Rattle.block.specs.declared.shapes.Defect.TheVariants.{Broken, Foreign}
use Rattle.block.specs.Judging.{Setup, broken_by, native_block}
use Rattle.shelf.specs.Model.{Conduct, OwnCard}
use Rattle.runs.specs.Book.{Fits, blank_book, block_of}
use Rattle.runs.specs.Law.{InRange, OneByteShows, LawFrom, FormatLaw}
use Rattle.runs.specs.Runs.{World, Run, start, step, Starts, formatted}
use Rattle.runs.proofs.CodecLaws.{CodecLaws}
use Rattle.runs.proofs.Fields.{block_broken}
use Rattle.runs.proofs.Readings.{reads}
use Rattle.runs.proofs.Spoils.{starts_next, spoils_none}

-- what a run starts with lasts along it
pub lasts : (E : Setup) → InRange E → CodecLaws E → (w₀ : World) → Starts E w₀ → (w : World) → Run E w₀ w → Starts E w
lasts E G C w₀ I w start = I
lasts E G C w₀ I w (step v k r o p) = starts_next E G C v (lasts E G C w₀ I v r) o k p

one_byte : (E : Setup) → CodecLaws E → (w : World) → Starts E w → OneByteShows E w
one_byte E C w I s r b i v a q g h l k d =
    let e : block_of E w.book.records s r ≡ b = cc in
    cond-true (broken_by E.sum (set b i v)) (Err Broken) (cond (native_block E s r (set b i v)) (Ok (set b i v)) (Err Foreign))
    (subst (λ z. (get_or z i 0 ≡ v → ⊥) → broken_by E.sum (set z i v) ≡ true) e
    (block_broken E C s a w.book.records I.fits r i v q l k) d)

pub run_law : (E : Setup) → InRange E → CodecLaws E → (w₀ : World) → Starts E w₀ → LawFrom E w₀
run_law E G C w₀ I₀ w u O =
    let I : Starts E w = lasts E G C w₀ I₀ w u in
    record { reads = reads E G C w I O; repairs = λ k _. spoils_none E G C w I O k; bytes = one_byte E C w I }

zeros_small : (n i : ℕ) → get_or (replicate n 0) i 0 < 2 ^ 8
zeros_small zero i = pow_pos 8
zeros_small (suc n) zero = pow_pos 8
zeros_small (suc n) (suc i) = zeros_small n i

pub blank_fits : (L : ℕ) → Fits (blank_book.records L)
blank_fits L = record { long = length-replicate {A = ℕ} 80 0; bytes = zeros_small 80; owned = pow_pos 32; versioned = pow_pos 32 }

-- the law of the runs that follow a format
pub format_law : (E : Setup) → InRange E → CodecLaws E → (m : Conduct) → OwnCard (E.D + 1) E.S m → FormatLaw E m
format_law E G C m law = run_law E G C (formatted m) (record { lawful = law; same = λ c. refl; fits = blank_fits })
