-- What is proved of the rounds of a unit.
use Rattle.std.proofs.Common.{◌≡◌, ℕ, zero, suc, ◌+◌, ◌*◌, ◌<◌, ◌≤◌, [], ◌∷◌, length, refl, ap, ◌∙◌, subst, arith}
use Rattle.std.proofs.lemmas.List.{length-replicate}
use Rattle.thread_steps.specs.Codes.{CodeTree, given}
use Rattle.thread_steps.specs.CodeUnit.{CodeUnit}
use Rattle.thread_steps.specs.UnitKind.{UnitKind}
use Rattle.thread_steps.specs.UnitKind.TheVariants.{Function, Region}
use Rattle.guarded_code.specs.Rounds.{Table, Found, Holds, Broke, OnFound, blank, round, after}
use Rattle.guarded_code.specs.Descriptions.{Description, untested, Unknown, meet, entry_locals, catch_starts, starts}
use Rattle.guarded_code.specs.Changes.{passes, enough, descriptions}
use Rattle.guarded_code.specs.Says.{Says, Describes}
use Rattle.guarded_code.specs.Facts.{MeetsRules, SaysMost, IsLast, EndsThere, BreaksThere}
use Rattle.guarded_code.proofs.Tables.{on_map, blank_nones}
use Rattle.guarded_code.proofs.Settling.{Low, Final, after_ends}
use Rattle.guarded_code.proofs.Best.{after_above}
use Rattle.guarded_code.proofs.Ending.{Still, after_one_end}
use Rattle.guarded_code.proofs.Order.{weight, height}
use Rattle.guarded_code.proofs.Passing.{laws}

pub entry_long : (given n : ℕ) → length (entry_locals given n) ≡ n
entry_long given zero = refl
entry_long zero (suc n) = ap suc (entry_long zero n)
entry_long (suc given) (suc n) = ap suc (entry_long given n)

catch_low : (code : CodeTree) (u : CodeUnit) (kind : UnitKind) → Low Description meet (passes code u.ops) Says weight height (laws code u.ops) (u.locals + length u.ops) (blank Description (length u.ops)) (catch_starts u.locals kind)
catch_low code u (Function name takes gives_int) = tt
catch_low code u (Region region captures catch_at) =
    (omega (arith, length-replicate u.locals (untested Unknown), blank_nones Description (length u.ops)), tt)

starts_low : (code : CodeTree) (u : CodeUnit) → Low Description meet (passes code u.ops) Says weight height (laws code u.ops) (u.locals + length u.ops) (blank Description (length u.ops)) (starts u)
starts_low code u = (omega (arith, entry_long (given u.kind) u.locals, blank_nones Description (length u.ops)), catch_low code u u.kind)

abbrev IsFinal : CodeTree → CodeUnit → Table Description → Type 0
IsFinal code u t = Final Description meet (passes code u.ops) Says weight height (laws code u.ops) (length u.ops) (starts u) t

less : (cap n : ℕ) → n * cap < n * cap + 1
less cap n = omega arith

-- the last round changes nothing, and what stands then meets the rules
finals : (code : CodeTree) (u : CodeUnit) → OnFound (Unit {0}) (descriptions code u) (λ t. IsFinal code u t)
finals code u =
    after_ends Description meet (passes code u.ops) Says weight height (laws code u.ops) (u.locals + length u.ops) (enough u) (length u.ops) (starts u) (starts_low code u)
    (less (4 * (u.locals + length u.ops) + 1) (length u.ops))

pub meets_rules : MeetsRules
meets_rules code u =
    on_map (Unit {0}) (λ t. IsFinal code u t) (λ t. Describes code u t) (descriptions code u) (finals code u)
    (λ t f. record { size = f.len; started = f.started; settled = f.settled })

pub says_most : SaysMost
says_most code u s h =
    after_above Description meet (passes code u.ops) Says weight height (laws code u.ops) s (enough u) (length u.ops) (starts u) h.size h.started h.settled

still_by : (code : CodeTree) (u : CodeUnit) (o : Found Description) → OnFound (Unit {0}) o (λ t. IsFinal code u t) → Still Description meet (passes code u.ops) o
still_by code u (Holds t) f = f.still
still_by code u (Broke a) f = tt

descriptions_still : (code : CodeTree) (u : CodeUnit) → Still Description meet (passes code u.ops) (descriptions code u)
descriptions_still code u = still_by code u (descriptions code u) (finals code u)

pub is_last : IsLast
is_last code u t e = subst (λ o. Still Description meet (passes code u.ops) o) e (descriptions_still code u)

ends_by : (code : CodeTree) (u : CodeUnit) (n : ℕ) (o : Found Description) → after Description meet (passes code u.ops) n (length u.ops) (starts u) ≡ o → Still Description meet (passes code u.ops) o → descriptions code u ≡ o
ends_by code u n o e still =
    after_one_end Description meet (passes code u.ops) (enough u) n (length u.ops) (starts u) (descriptions code u) o refl (descriptions_still code u) e still

pub ends_there : EndsThere
ends_there code u n t e still = ends_by code u n (Holds t) e still

pub breaks_there : BreaksThere
breaks_there code u n a e = ends_by code u n (Broke a) e tt
