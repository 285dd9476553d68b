-- Totals over the stripes, and what follows for each card.
use Rattle.std.specs.Prelude.{ℕ, zero, suc, ◌+◌, cond, count_ones, nat_lt}
use Rattle.stripe.specs.declared.shapes.Cause.TheVariants.{Blind, Broken, Foreign, Behind}
use Rattle.stripe.specs.declared.shapes.Condition.{Condition}
use Rattle.stripe.specs.declared.shapes.Condition.TheVariants.{NotLooked, Readable, Bad}
use Rattle.report.specs.declared.shapes.Advice.{Advice}
use Rattle.report.specs.declared.shapes.Advice.TheVariants.{Leave, CheckIdentity, CleanContacts, WatchForDecay, ScrubAndWatch}
use Rattle.report.specs.declared.shapes.CardTotals.{CardTotals}
use Rattle.report.specs.declared.shapes.StripeTotals.{StripeTotals}

-- one more, up to the greatest number of 32 bits
abbrev pub one_more : ℕ → ℕ
one_more n = cond (nat_lt n 4294967295) (n + 1) n

abbrev pub no_blocks : CardTotals
no_blocks = record { readable = 0; blind = 0; broken = 0; foreign = 0; behind = 0 }

abbrev pub counted : CardTotals → Condition → CardTotals
counted t NotLooked = t
counted t Readable = record { readable = one_more t.readable; blind = t.blind; broken = t.broken; foreign = t.foreign; behind = t.behind }
counted t (Bad Blind) = record { readable = t.readable; blind = one_more t.blind; broken = t.broken; foreign = t.foreign; behind = t.behind }
counted t (Bad Broken) = record { readable = t.readable; blind = t.blind; broken = one_more t.broken; foreign = t.foreign; behind = t.behind }
counted t (Bad Foreign) = record { readable = t.readable; blind = t.blind; broken = t.broken; foreign = one_more t.foreign; behind = t.behind }
counted t (Bad Behind) = record { readable = t.readable; blind = t.blind; broken = t.broken; foreign = t.foreign; behind = one_more t.behind }

abbrev pub no_stripes : StripeTotals
no_stripes = record { clean = 0; single = 0; lost = 0 }

abbrev pub stripe_by : StripeTotals → ℕ → StripeTotals
stripe_by t zero = record { clean = one_more t.clean; single = t.single; lost = t.lost }
stripe_by t (suc zero) = record { clean = t.clean; single = one_more t.single; lost = t.lost }
stripe_by t (suc (suc n)) = record { clean = t.clean; single = t.single; lost = one_more t.lost }

-- by the number of ones in the mask
abbrev pub stripe_counted : StripeTotals → ℕ → StripeTotals
stripe_counted t m = stripe_by t (count_ones m)

-- the first of foreign, blind, broken and behind that was found
abbrev pub advice_of : CardTotals → Advice
advice_of t =
    cond (nat_lt 0 t.foreign) CheckIdentity
    (cond (nat_lt 0 t.blind) CleanContacts (cond (nat_lt 0 t.broken) WatchForDecay (cond (nat_lt 0 t.behind) ScrubAndWatch Leave)))

-- blank, full stop, b, x, f and v
abbrev pub letter_of : Condition → ℕ
letter_of NotLooked = 32
letter_of Readable = 46
letter_of (Bad Blind) = 98
letter_of (Bad Broken) = 120
letter_of (Bad Foreign) = 102
letter_of (Bad Behind) = 118
