-- Operations at their new addresses.
use Rattle.std.proofs.Common.{IsTrue, ◌≡◌, ℕ, ◌+◌, List, [], ◌∷◌, map, Bool, true, Option, Some, None, slice_get, option_map, refl, sym, ap, ap₂, ◌∙◌}
use Rattle.std.specs.Prelude.{◌++◌, is_some}
use Rattle.std.proofs.lemmas.Bool.{false≢true, ltb-true}
use Rattle.lam_bytecode.specs.Codes.{CodeTree}
use Rattle.lam_bytecode.specs.declared.op.Op.{Op}
use Rattle.lam_bytecode.specs.declared.op.Op.TheVariants.{Load, Jump, JumpIfFalse, Call, Return, Throw, ReadBarrier, WriteBarrier, EnterRegion, LeaveRegion, Spawn}
use Rattle.guarded_code.specs.declared.known.Access.{Access}
use Rattle.guarded_code.specs.declared.known.Operand.{Operand}
use Rattle.guarded_code.specs.declared.known.ValueKind.TheVariants.{Other}
use Rattle.guarded_code.specs.declared.known.Access.TheVariants.{Reading, Writing}
use Rattle.guarded_code.specs.Descriptions.{Description}
use Rattle.guarded_code.specs.Changes.{Only, Tests, Trades, anything, change, changed, goes, sent, passed}
use Rattle.guarded_code.specs.Breaks.{names_something, is_tested_at, compares, is_guarded}
use Rattle.thinned_code.specs.Thinned.{tests_again, moved, moved_op, thin_code}
use Rattle.thinned_code.proofs.Coherent.{NamesLocal}
use Rattle.thinned_code.proofs.Units.{same_takes, same_result, same_captures, same_there}

-- ---- barriers
abbrev pub barrier : Access → ℕ → Op
barrier Reading depth = ReadBarrier depth
barrier Writing depth = WriteBarrier depth

pub barrier_change : (code : CodeTree) (access : Access) (depth : ℕ) → change code (barrier access depth) ≡ Tests access depth
barrier_change code Reading depth = refl
barrier_change code Writing depth = refl

pub barrier_goes : (a : ℕ) (access : Access) (depth : ℕ) → goes a (barrier access depth) ≡ (a + 1) ∷ []
barrier_goes a Reading depth = refl
barrier_goes a Writing depth = refl

pub again_of : (op : Op) (d : Description) → tests_again op d ≡ true → (access : Access) × (depth : ℕ) × (op ≡ barrier access depth) × IsTrue (is_tested_at access (slice_get d.stack depth))
again_of (ReadBarrier depth) d e = (Reading, depth, refl, e)
again_of (WriteBarrier depth) d e = (Writing, depth, refl, e)
again_of op d e = absurd (false≢true e)

-- ---- an operation with the address that it names moved
pub by_moved : (ks : List Bool) (P : Op → Op → Type 0) → ((to : ℕ) → P (Jump to) (Jump (moved ks to))) → ((to : ℕ) → P (JumpIfFalse to) (JumpIfFalse (moved ks to))) → ((op : Op) → P op op) → (op : Op) → P op (moved_op ks op)
by_moved ks P j f h (Jump to) = j to
by_moved ks P j f h (JumpIfFalse to) = f to
by_moved ks P j f h op = h op

pub guarded_moved : (ks : List Bool) (op : Op) (d : Description) → is_guarded (moved_op ks op) d ≡ is_guarded op d
guarded_moved ks op d = by_moved ks (λ o p. is_guarded p d ≡ is_guarded o d) (λ to. refl) (λ to. refl) (λ o. refl) op

pub compares_moved : (ks : List Bool) (op : Op) (os : List Operand) → compares (moved_op ks op) os ≡ compares op os
compares_moved ks op os = by_moved ks (λ o p. compares p os ≡ compares o os) (λ to. refl) (λ to. refl) (λ o. refl) op

pub again_moved : (ks : List Bool) (op : Op) (d : Description) → tests_again (moved_op ks op) d ≡ tests_again op d
again_moved ks op d = by_moved ks (λ o p. tests_again p d ≡ tests_again o d) (λ to. refl) (λ to. refl) (λ o. refl) op

pub goes_moved : (ks : List Bool) (a b : ℕ) → moved ks (a + 1) ≡ b + 1 → (op : Op) → map (moved ks) (goes a op) ≡ goes b (moved_op ks op)
goes_moved ks a b e (Jump to) = refl
goes_moved ks a b e (JumpIfFalse to) = ap (λ n. n ∷ moved ks to ∷ []) e
goes_moved ks a b e Return = refl
goes_moved ks a b e Throw = refl
goes_moved ks a b e LeaveRegion = refl
goes_moved ks a b e op = ap (λ n. n ∷ []) e

-- ---- by the code's units
change_units : (code : CodeTree) (op : Op) → change (thin_code code) op ≡ change code op
change_units code (Call u) =
    ap₂ (λ n k. Trades (anything n) (Some k)) (same_takes code code.units u) (same_result code code.units u)
change_units code (EnterRegion r) =
    ap (λ n. Trades (anything n ++ Only Other ∷ Only Other ∷ []) None) (same_captures code r code.units)
change_units code (Spawn u) =
    ap (λ n. Trades (anything n ++ Only Other ∷ []) (Some Other)) (same_takes code code.units u)
change_units code op = refl

pub change_moved : (code : CodeTree) (ks : List Bool) (op : Op) → change (thin_code code) (moved_op ks op) ≡ change code op
change_moved code ks op =
    by_moved ks (λ o p. change (thin_code code) p ≡ change code o) (λ to. refl) (λ to. refl) (change_units code) op

names_units : (code : CodeTree) (locals : ℕ) (op : Op) → names_something (thin_code code) locals op ≡ names_something code locals op
names_units code locals (Call u) = ap is_some (same_takes code code.units u)
names_units code locals (EnterRegion r) = same_there code r code.units
names_units code locals (Spawn u) = ap is_some (same_takes code code.units u)
names_units code locals op = refl

pub names_moved : (code : CodeTree) (ks : List Bool) (locals : ℕ) (op : Op) → names_something (thin_code code) locals (moved_op ks op) ≡ names_something code locals op
names_moved code ks locals op =
    by_moved ks (λ o p. names_something (thin_code code) locals p ≡ names_something code locals o) (λ to. refl) (λ to. refl) (names_units code locals) op

pub names_local : (code : CodeTree) (locals : ℕ) (op : Op) → IsTrue (names_something code locals op) → NamesLocal locals (change code op)
names_local code locals (Load n) e = ltb-true n locals e
names_local code locals op e = tt

-- ---- what is sent on
abbrev pub pair_moved : List Bool → ℕ × Description → ℕ × Description
pair_moved ks p = (moved ks p.0, p.1)

sent_moved : (ks : List Bool) (bs : List ℕ) (d : Description) → map (pair_moved ks) (sent bs d) ≡ sent (map (moved ks) bs) d
sent_moved ks [] d = refl
sent_moved ks (b ∷ bs) d = ap (λ ps. (moved ks b, d) ∷ ps) (sent_moved ks bs d)

sent_by : (ks : List Bool) (bs cs : List ℕ) → map (moved ks) bs ≡ cs → (o : Option Description) → option_map (map (pair_moved ks)) (option_map (sent bs) o) ≡ option_map (sent cs) o
sent_by ks bs cs e None = refl
sent_by ks bs cs e (Some d) = ap (λ ps. Some ps) (sent_moved ks bs d ∙ ap (λ xs. sent xs d) e)

-- an operation that stays sends on what it sent, to the new addresses
pub passed_moved : (code : CodeTree) (ks : List Bool) (op : Option Op) (a b : ℕ) (d : Description) → moved ks (a + 1) ≡ b + 1 → option_map (map (pair_moved ks)) (passed code op a d) ≡ passed (thin_code code) (option_map (moved_op ks) op) b d
passed_moved code ks None a b d e = refl
passed_moved code ks (Some op) a b d e =
    sent_by ks (goes a op) (goes b (moved_op ks op)) (goes_moved ks a b e op) (changed (change code op) d)
    ∙ ap (λ c. option_map (sent (goes b (moved_op ks op))) (changed c d)) (sym (change_moved code ks op))
