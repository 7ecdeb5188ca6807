-- A thinned unit breaks no rule where the unit breaks none.
use Rattle.std.proofs.Common.{IsTrue, ◌≡◌, ℕ, List, [], ◌∷◌, Bool, true, Option, Some, None, length, slice_get, refl, sym, ap, ◌∙◌, subst}
use Rattle.std.proofs.lemmas.Bool.{and_parts, and_from}
use Rattle.std.proofs.lemmas.List.{length-replicate}
use Rattle.lam_bytecode.specs.Codes.{CodeTree, given}
use Rattle.lam_bytecode.specs.declared.unit.CodeUnit.{CodeUnit}
use Rattle.lam_bytecode.specs.declared.unit.UnitKind.{UnitKind}
use Rattle.lam_bytecode.specs.declared.unit.UnitKind.TheVariants.{Function, Region}
use Rattle.lam_bytecode.specs.declared.op.Op.{Op}
use Rattle.lam_bytecode.specs.declared.op.Op.TheVariants.{Eq, Ne}
use Rattle.guarded_code.specs.Rounds.{Sent, Table, Found, Holds, Broke, OnFound, Above}
use Rattle.guarded_code.specs.declared.known.ValueKind.{ValueKind}
use Rattle.guarded_code.specs.declared.known.Operand.{Operand}
use Rattle.guarded_code.specs.declared.known.ValueKind.TheVariants.{Number, Unknown}
use Rattle.guarded_code.specs.Descriptions.{Description, untested, meet, catch_starts, starts}
use Rattle.guarded_code.specs.Changes.{Place, Any, Only, wanted, left, change, changed, goes, sent, passed, passes, enough, descriptions}
use Rattle.guarded_code.specs.Breaks.{names_something, all_within, may_agree, fits, all_fit, two_agree, compares, takes_kinds, is_guarded}
use Rattle.guarded_code.specs.Says.{Pairwise, KindSays, OperandSays, Says, Describes}
use Rattle.guarded_code.specs.Facts.{IsUnitGuarded}
use Rattle.guarded_code.proofs.Tables.{none_some, some_inj}
use Rattle.guarded_code.proofs.Passing.{guards_more}
use Rattle.guarded_code.proofs.RoundFacts.{entry_long, meets_rules, says_most}
use Rattle.thinned_code.specs.Thinned.{staying, moved, moved_op, sifted, thin_unit, thin_code}
use Rattle.thinned_code.proofs.Keeping.{AllHave, Kept, Keeps, after_kept}
use Rattle.thinned_code.proofs.Sifting.{origin}
use Rattle.thinned_code.proofs.Coherent.{Coherent, NamesLocal, meet_coherent, left_coherent}
use Rattle.thinned_code.proofs.Ops.{guarded_moved, compares_moved, change_moved, names_local}
use Rattle.thinned_code.proofs.Thinning.{map_some, if_some, op_moved, thin_describes}
use Rattle.thinned_code.proofs.Targets.{Targets, targets_of, none_bad, thin_targets}
use Rattle.thinned_code.proofs.Spread.{no_more}

-- ---- where nothing is a copy yet
module _ (code : CodeTree) (u : CodeUnit) (h : Targets code u) where
  abbrev pub AreCoherent : Table Description → Type 0
  AreCoherent t = Kept Description meet (passes code u.ops) (λ a d. Coherent u.locals d) t

  abbrev HaveCoherent : Sent Description → Type 0
  HaveCoherent ps = AllHave Description meet (passes code u.ops) (λ a d. Coherent u.locals d) ps

  sent_coherent : (bs : List ℕ) (d : Description) → Coherent u.locals d → HaveCoherent (sent bs d)
  sent_coherent [] d c = tt
  sent_coherent (b ∷ bs) d c = (c, sent_coherent bs d c)

  named : (a : ℕ) (op : Op) → slice_get u.ops a ≡ Some op → NamesLocal u.locals (change code op)
  named a op at =
      names_local code u.locals op (and_parts (names_something code u.locals op) (all_within (length u.ops) (goes a op)) (h.each a op at)).0

  pass_coherent : (o : Option Op) (a : ℕ) (d : Description) (ps : Sent Description) → slice_get u.ops a ≡ o → Coherent u.locals d → passed code o a d ≡ Some ps → HaveCoherent ps
  pass_coherent None a d ps at c e = none_some e
  pass_coherent (Some op) a d ps at c e =
      let is = map_some (sent (goes a op)) (changed (change code op) d) ps e in
      let y = if_some _ (left (change code op) d) is.0 is.1 in
      subst HaveCoherent is.2 (sent_coherent (goes a op) is.0 (subst (Coherent u.locals) y.1 (left_coherent u.locals (change code op) d (named a op at) c)))

  coherent_keeps : Keeps Description meet (passes code u.ops) (λ a d. Coherent u.locals d)
  coherent_keeps = record {
    by_meet = λ b d e m. meet_coherent u.locals d e m;
    by_pass = λ a d ps c e. pass_coherent (slice_get u.ops a) a d ps refl c e;
  }

  catch_coherent : (kind : UnitKind) → HaveCoherent (catch_starts u.locals kind)
  catch_coherent (Function name takes gives_int) = tt
  catch_coherent (Region region captures catch_at) = (record { wide = length-replicate u.locals (untested Unknown); copies = (tt, tt) }, tt)

  starts_coherent : HaveCoherent (starts u)
  starts_coherent = (record { wide = entry_long (given u.kind) u.locals; copies = tt }, catch_coherent u.kind)

  pub all_coherent : OnFound (Unit {0}) (descriptions code u) AreCoherent
  all_coherent =
      after_kept Description meet (passes code u.ops) (λ a d. Coherent u.locals d) (enough u) (length u.ops) (starts u) coherent_keeps starts_coherent

-- ---- one that says less takes more kinds
agree_unknown : (k : ValueKind) → IsTrue (may_agree k Unknown)
agree_unknown Number = refl
agree_unknown k = refl

agree_less : (want k l : ValueKind) → KindSays k l → IsTrue (may_agree want k) → IsTrue (may_agree want l)
agree_less want k Unknown h e = agree_unknown want
agree_less want k l h e = subst (λ x. IsTrue (may_agree want x)) h e

first_less : (k l m : ValueKind) → KindSays k l → IsTrue (may_agree k m) → IsTrue (may_agree l m)
first_less k Unknown m h e = refl
first_less k l m h e = subst (λ x. IsTrue (may_agree x m)) h e

fits_less : (p : Place) (k l : ValueKind) → KindSays k l → IsTrue (fits p k) → IsTrue (fits p l)
fits_less Any k l h e = refl
fits_less (Only want) k l h e = agree_less want k l h e

all_less : (ps : List Place) (os qs : List Operand) → Pairwise OperandSays os qs → IsTrue (all_fit ps os) → IsTrue (all_fit ps qs)
all_less (p ∷ ps) [] (q ∷ qs) h e = absurd h
all_less (p ∷ ps) (o ∷ os) (q ∷ qs) h e =
    let parts = and_parts (fits p o.known.kind) (all_fit ps os) e in
    and_from (fits p q.known.kind) (all_fit ps qs) (fits_less p o.known.kind q.known.kind h.0.0.kind parts.0) (all_less ps os qs h.1 parts.1)
all_less ps os qs h e = refl

two_less : (os qs : List Operand) → Pairwise OperandSays os qs → IsTrue (two_agree os) → IsTrue (two_agree qs)
two_less [] (q ∷ r ∷ qs) h e = absurd h
two_less (o ∷ []) (q ∷ r ∷ qs) h e = absurd h.1
two_less (o ∷ p ∷ os) (q ∷ r ∷ qs) h e =
    first_less o.known.kind q.known.kind r.known.kind h.0.0.kind (agree_less o.known.kind p.known.kind r.known.kind h.1.0.0.kind e)
two_less os qs h e = refl

compares_less : (op : Op) (os qs : List Operand) → Pairwise OperandSays os qs → IsTrue (compares op os) → IsTrue (compares op qs)
compares_less Eq os qs h e = two_less os qs h e
compares_less Ne os qs h e = two_less os qs h e
compares_less op os qs h e = refl

takes_less : (code : CodeTree) (ks : List Bool) (op : Op) (d x : Description) → Says d x → IsTrue (takes_kinds code op d) → IsTrue (takes_kinds (thin_code code) (moved_op ks op) x)
takes_less code ks op d x h e =
    let parts = and_parts (all_fit (wanted (change code op)) d.stack) (compares op d.stack) e in
    and_from (all_fit (wanted (change (thin_code code) (moved_op ks op))) x.stack) (compares (moved_op ks op) x.stack)
    (ap (λ c. all_fit (wanted c) x.stack) (change_moved code ks op) ∙ all_less (wanted (change code op)) d.stack x.stack h.stack parts.0)
    (compares_moved ks op x.stack ∙ compares_less op d.stack x.stack h.stack parts.1)

-- ---- the thinned unit
holds_on : (B : Type 0) (P : Table Description → Type 0) (o : Found Description) (t : Table Description) → o ≡ Holds t → OnFound B o P → P t
holds_on B P o t e h = subst (λ x. OnFound B x P) e h

table_of : (P : Table Description → Type 0) (o : Found Description) → OnFound ⊥ o P → (t : Table Description) × (o ≡ Holds t) × P t
table_of P (Holds t) p = (t, refl, p)
table_of P (Broke a) p = absurd p

-- what the thinned unit's rounds find says as much as what the unit's own found
pub record Sides (code : CodeTree) (u : CodeUnit) (t t' : Table Description) : Type 0 where
  pub found : descriptions (thin_code code) (thin_unit (staying u.ops t) u) ≡ Holds t'
  pub above : Above Description Says t' (sifted (staying u.ops t) t)
  pub below : (a : ℕ) (d : Description) → slice_get t a ≡ Some (Some d) → (d' : Description) × (slice_get t' (moved (staying u.ops t) a) ≡ Some (Some d')) × Says d d'

pub sides : (code : CodeTree) (u : CodeUnit) (g : IsUnitGuarded code u) → (t' : Table Description) × Sides code u g.table t'
sides code u g =
    let t = g.table in
    let thin = thin_unit (staying u.ops t) u in
    let targets = targets_of code u g.targets in
    let h = holds_on (Unit {0}) (λ x. Describes code u x) (descriptions code u) t g.found (meets_rules code u) in
    let coherent = holds_on (Unit {0}) (AreCoherent code u targets) (descriptions code u) t g.found (all_coherent code u targets) in
    let new = table_of (λ x. Above Description Says x (sifted (staying u.ops t) t)) (descriptions (thin_code code) thin) (says_most (thin_code code) thin (sifted (staying u.ops t) t) (thin_describes code u t h coherent)) in
    let h' = holds_on (Unit {0}) (λ x. Describes (thin_code code) thin x) (descriptions (thin_code code) thin) new.0 new.1 (meets_rules (thin_code code) thin) in
    (new.0, record { found = new.1; above = new.2; below = no_more code u t h coherent new.0 h' new.2 g.found })

-- where an operation of the thinned unit and its description come from
pub record From (u : CodeUnit) (t : Table Description) (ks : List Bool) (op' : Op) (d' : Description) : Type 0 where
  pub place : ℕ
  pub op : Op
  pub desc : Description
  pub kept : slice_get ks place ≡ Some true
  pub op_at : slice_get u.ops place ≡ Some op
  pub desc_at : slice_get t place ≡ Some (Some desc)
  pub same : moved_op ks op ≡ op'
  pub more : Says d' desc
  pub less : Says desc d'

pub from : (code : CodeTree) (u : CodeUnit) (t t' : Table Description) → Sides code u t t' → (b : ℕ) (op' : Op) (d' : Description) → slice_get (thin_unit (staying u.ops t) u).ops b ≡ Some op' → slice_get t' b ≡ Some (Some d') → From u t (staying u.ops t) op' d'
from code u t t' s b op' d' at_op at_d =
    let ks = staying u.ops t in
    let x = s.above.says b d' at_d in
    let o = origin ks t b (Some x.0) x.1 in
    let y = map_some (moved_op ks) (slice_get u.ops o.place) op' (sym (op_moved ks u.ops o.place o.kept) ∙ ap (slice_get (thin_unit ks u).ops) o.same ∙ at_op) in
    let low = s.below o.place x.0 o.at in
    let eq : low.0 ≡ d' = some_inj (some_inj (sym low.1 ∙ ap (slice_get t') o.same ∙ at_d)) in
    record { place = o.place; op = y.0; desc = x.0; kept = o.kept; op_at = y.1; desc_at = o.at; same = y.2; more = x.2; less = subst (Says x.0) eq low.2 }

pub thin_unit_guarded : (code : CodeTree) (u : CodeUnit) (g : IsUnitGuarded code u) → IsUnitGuarded (thin_code code) (thin_unit (staying u.ops g.table) u)
thin_unit_guarded code u g =
    let t = g.table in
    let ks = staying u.ops t in
    let s = sides code u g in
    record {
      targets = none_bad (thin_code code) (thin_unit ks u) (thin_targets code u t (targets_of code u g.targets));
      table = s.0;
      found = s.1.found;
      taken = λ b op' d' at_op at_d. let f = from code u t s.0 s.1 b op' d' at_op at_d in
          subst (λ p. IsTrue (takes_kinds (thin_code code) p d')) f.same (takes_less code ks f.op f.desc d' f.less (g.taken f.place f.op f.desc f.op_at f.desc_at));
      guarded = λ b op' d' at_op at_d. let f = from code u t s.0 s.1 b op' d' at_op at_d in
          subst (λ p. IsTrue (is_guarded p d')) f.same (guarded_moved ks f.op d' ∙ guards_more f.op d' f.desc f.more (g.guarded f.place f.op f.desc f.op_at f.desc_at));
    }
