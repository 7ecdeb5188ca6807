-- The statements that hold blocks.
use Rattle.std.proofs.Common.{◌≡◌, ℕ, List, Option, Result, Ok, Err, OnOk, Bor, sym, ap, ◌∙◌, subst}
use Rattle.lam_syntax.specs.Tree.{ExprTree, StmtForm, StmtList, ElseTree, no_else, else_block, IdTree, while_stmt, sync_stmt, if_stmt, region_stmt, return_stmt, do_stmt, assign_stmt}
use Rattle.lam_operators.specs.Words.{Word}
use Rattle.lam_builtins.specs.Types.{ValueType, Given}
use Rattle.lam_types_kinds.specs.Verdicts.{Fine, then_on}
use Rattle.lam_types_kinds.specs.Breaks.{Verdict}
use Rattle.lam_types_kinds.specs.Tables.{Decls}
use Rattle.lam_types_kinds.specs.Values.{Breaks, names}
use Rattle.lam_types_kinds.specs.declared.types.TypeRef.{TypeRef}
use Rattle.lam_types_kinds.specs.declared.fault.TypeFault.{TypeFault}
use Rattle.lam_types_kinds.proofs.Steps.{stops, goes_on}
use Rattle.lam_types_exprs.specs.Exprs.{at_of, given_of}
use Rattle.lam_types.specs.declared.stmts.Counts.{Counts}
use Rattle.lam_types.specs.Parts.{guarded, synced, opened, caught}
use Rattle.lam_types.specs.Stmts.{State, form_checked, else_checked, block_checked, back_in, returned, assigned, is_place, place_type}
use Rattle.lam_types.specs.Meets.{Counted, Steps}

abbrev pub Entries : Type 0
Entries = List (Bor Word × TypeRef)

abbrev pub state : Entries → Counts → Verdict State
state l c = Fine (names l, c)

-- a last part, after which the names are those of before
leaves : (r : Result Counts TypeFault) (new old : Entries) (v : Verdict Counts) → OnOk r (new ≡ old) → Counted r v → Steps r (names new) (then_on {B = State} v (λ c. Fine (names old, c)))
leaves (Ok c) new old v k m = ap (λ (v : Verdict Counts). then_on {B = State} v (λ c. Fine (names old, c))) m ∙ ap (λ (l : Entries). state l c) (sym k)
leaves (Err f) new old v k m = stops f v (λ c. Fine (names old, c)) m

module _ (d : Decls) (res : Option ValueType) (c : Counts) (at : ℕ) (k : StmtForm) (old : Entries) where
  pub steps_form : (r : Result Counts TypeFault) (new : Entries) (form : StmtForm) → k ≡ form → Steps r (names new) (form_checked d res (names old) c at form) → Steps r (names new) (form_checked d res (names old) c at k)
  steps_form r new form e h = subst (λ (k : StmtForm). Steps r (names new) (form_checked d res (names old) c at k)) (sym e) h

  breaks_form : (f : TypeFault) (form : StmtForm) → k ≡ form → Breaks f (form_checked d res (names old) c at form) → Breaks f (form_checked d res (names old) c at k)
  breaks_form f form e h = subst (λ (k : StmtForm). Breaks f (form_checked d res (names old) c at k)) (sym e) h

  pub while_arm : (r : Result Counts TypeFault) (new : Entries) (e : ExprTree) (body : StmtList) → k ≡ while_stmt e body → OnOk r (new ≡ old) → Counted r (guarded d res (names old) c e body) →
      Steps r (names new) (form_checked d res (names old) c at k)
  while_arm r new e body is same m = steps_form r new (while_stmt e body) is (leaves r new old (guarded d res (names old) c e body) same m)

  pub sync_arm : (r : Result Counts TypeFault) (new : Entries) (e : ExprTree) (body : StmtList) → k ≡ sync_stmt e body → OnOk r (new ≡ old) → Counted r (synced d res (names old) c at e body) →
      Steps r (names new) (form_checked d res (names old) c at k)
  sync_arm r new e body is same m = steps_form r new (sync_stmt e body) is (leaves r new old (synced d res (names old) c at e body) same m)

  pub if_stop : (f : TypeFault) (e : ExprTree) (first : StmtList) (other : ElseTree) → k ≡ if_stmt e first other → Breaks f (guarded d res (names old) c e first) → Breaks f (form_checked d res (names old) c at k)
  if_stop f e first other is b =
      breaks_form f (if_stmt e first other) is (stops f (guarded d res (names old) c e first) (λ c. then_on {B = State} (else_checked d res (names old) c other) (λ c. Fine (names old, c))) b)

  pub if_none : (mid : Counts) (new : Entries) (e : ExprTree) (first : StmtList) → k ≡ if_stmt e first no_else → guarded d res (names old) c e first ≡ Fine mid → new ≡ old →
      form_checked d res (names old) c at k ≡ Fine (names new, mid)
  if_none mid new e first is m same =
      ap (form_checked d res (names old) c at) is ∙ ap (λ (v : Verdict Counts). then_on {B = State} v (λ c. Fine (names old, c))) m ∙ ap (λ (l : Entries). state l mid) (sym same)

  pub if_some : (mid : Counts) (r : Result Counts TypeFault) (new between : Entries) (e : ExprTree) (first other : StmtList) → k ≡ if_stmt e first (else_block other) → guarded d res (names old) c e first ≡ Fine mid → between ≡ old →
      OnOk r (new ≡ between) → Counted r (block_checked d res (names between) mid other) → Steps r (names new) (form_checked d res (names old) c at k)
  if_some mid r new between e first other is g i j m =
      steps_form r new (if_stmt e first (else_block other)) is
      (subst (λ (v : Verdict Counts). Steps r (names new) (then_on {B = State} v (λ c. then_on {B = State} (block_checked d res (names old) c other) (λ c. Fine (names old, c))))) (sym g)
      (subst (λ (l : Entries). Steps r (names new) (then_on {B = State} (block_checked d res (names l) mid other) (λ c. Fine (names l, c)))) i (leaves r new between (block_checked d res (names between) mid other) j m)))

  pub region_stop : (f : TypeFault) (l m : ExprTree) (xs : List IdTree) (body : StmtList) (x : IdTree) (handler : StmtList) → k ≡ region_stmt l m xs body x handler → Breaks f (opened d res (names old) c at l m xs body) →
      Breaks f (form_checked d res (names old) c at k)
  region_stop f l m xs body x handler is b =
      breaks_form f (region_stmt l m xs body x handler) is
      (stops f (opened d res (names old) c at l m xs body) (λ inner. then_on {B = State} (caught d res (names old) inner x handler) (λ inner. Fine (names old, back_in c inner))) b)

  pub catch_stop : (f : TypeFault) (inner : Counts) (between : Entries) (l m : ExprTree) (xs : List IdTree) (body : StmtList) (x : IdTree) (handler : StmtList) → k ≡ region_stmt l m xs body x handler →
      opened d res (names old) c at l m xs body ≡ Fine inner → between ≡ old → Breaks f (caught d res (names between) inner x handler) → Breaks f (form_checked d res (names old) c at k)
  catch_stop f inner between l m xs body x handler is g i b =
      breaks_form f (region_stmt l m xs body x handler) is
      (goes_on f (opened d res (names old) c at l m xs body) inner (λ inner. then_on {B = State} (caught d res (names old) inner x handler) (λ inner. Fine (names old, back_in c inner))) g
      (stops f (caught d res (names old) inner x handler) (λ inner. Fine (names old, back_in c inner)) (subst (λ (l : Entries). Breaks f (caught d res (names l) inner x handler)) i b)))

  pub region_fine : (inner last : Counts) (between new : Entries) (l m : ExprTree) (xs : List IdTree) (body : StmtList) (x : IdTree) (handler : StmtList) → k ≡ region_stmt l m xs body x handler →
      opened d res (names old) c at l m xs body ≡ Fine inner → between ≡ old → caught d res (names between) inner x handler ≡ Fine last → new ≡ between → form_checked d res (names old) c at k ≡ Fine (names new, back_in c last)
  region_fine inner last between new l m xs body x handler is g i h j =
      ap (form_checked d res (names old) c at) is ∙
      ap (λ (v : Verdict Counts). then_on {B = State} v (λ inner. then_on {B = State} (caught d res (names old) inner x handler) (λ inner. Fine (names old, back_in c inner)))) g ∙
      ap (λ (v : Verdict Counts). then_on {B = State} v (λ inner. Fine (names old, back_in c inner))) (subst (λ (l : Entries). caught d res (names l) inner x handler ≡ Fine last) i h) ∙
      ap (λ (l : Entries). state l (back_in c last)) (sym i ∙ sym j)

  -- statements without a block
  pub return_arm : (f : TypeFault) (e : Option ExprTree) → k ≡ return_stmt e → Breaks f (returned d res (names old) at e) → Breaks f (form_checked d res (names old) c at k)
  return_arm f e is b = breaks_form f (return_stmt e) is (stops f (returned d res (names old) at e) (λ _. Fine (names old, c)) b)

  pub do_arm : (f : TypeFault) (e : ExprTree) → k ≡ do_stmt e → Breaks f (given_of d (names old) e) → Breaks f (form_checked d res (names old) c at k)
  do_arm f e is b = breaks_form f (do_stmt e) is (stops f (given_of d (names old) e) (λ _. Fine (names old, c)) b)

  pub assign_first : (f : TypeFault) (p e : ExprTree) → k ≡ assign_stmt p e → Breaks f (given_of d (names old) p) → Breaks f (form_checked d res (names old) c at k)
  assign_first f p e is b =
      breaks_form f (assign_stmt p e) is (stops f (given_of d (names old) p) (λ g. then_on {B = State} (assigned d (names old) (at_of p) g (place_type (is_place p) g) e) (λ _. Fine (names old, c))) b)

  pub assign_second : (f : TypeFault) (g : Given) (t : Option ValueType) (p e : ExprTree) → k ≡ assign_stmt p e → given_of d (names old) p ≡ Fine g → t ≡ place_type (is_place p) g → Breaks f (assigned d (names old) (at_of p) g t e) →
      Breaks f (form_checked d res (names old) c at k)
  assign_second f g t p e is i q b =
      breaks_form f (assign_stmt p e) is
      (goes_on f (given_of d (names old) p) g (λ g. then_on {B = State} (assigned d (names old) (at_of p) g (place_type (is_place p) g) e) (λ _. Fine (names old, c))) i
      (stops f (assigned d (names old) (at_of p) g (place_type (is_place p) g) e) (λ _. Fine (names old, c)) (subst (λ (t : Option ValueType). Breaks f (assigned d (names old) (at_of p) g t e)) q b)))

  pub assign_done : (g : Given) (t : Option ValueType) (p e : ExprTree) → k ≡ assign_stmt p e → given_of d (names old) p ≡ Fine g → t ≡ place_type (is_place p) g → assigned d (names old) (at_of p) g t e ≡ Fine tt →
      form_checked d res (names old) c at k ≡ Fine (names old, c)
  assign_done g t p e is i q b =
      ap (form_checked d res (names old) c at) is ∙
      ap (λ (v : Verdict Given). then_on {B = State} v (λ g. then_on {B = State} (assigned d (names old) (at_of p) g (place_type (is_place p) g) e) (λ _. Fine (names old, c)))) i ∙
      ap (λ (v : Verdict (Unit {0})). then_on {B = State} v (λ _. Fine (names old, c))) (subst (λ (t : Option ValueType). assigned d (names old) (at_of p) g t e ≡ Fine tt) q b)
