-- Typed statements keep the locals of their types, and return what their function gives.
use Rattle.std.proofs.Common.{◌≡◌, ℕ, Bool, true, false, List, [], ◌∷◌, ◌++◌, Option, Some, None, refl, ap, subst, map, length}
use Rattle.std.specs.Prelude.{◌&&◌, ◌-◌, replicate}
use Rattle.std.proofs.lemmas.Option.{slice_get_within}
use Rattle.flow_labels.specs.declared.Label.{Label}
use Rattle.capabilities.specs.declared.Caps.{Caps}
use Rattle.lam_value.specs.declared.values.Value.{Value}
use Rattle.lam_value.specs.declared.values.Value.TheVariants.{Int, Nothing, Obj, Arr}
use Rattle.lam_builtins.specs.Types.{int, bool, label, caps, object, array, a_value, exactly}
use Rattle.lam_asks.specs.declared.fault.Fault.{Fault}
use Rattle.lam_asks.specs.declared.fault.Fault.TheVariants.{Null, Thrown}
use Rattle.lam_asks.specs.Faults.{fault_number}
use Rattle.lam_asks.specs.declared.answer.Answer.{Answer}
use Rattle.lam_asks.specs.declared.answer.Answer.TheVariants.{Done, Entered, Val, Refused, Failed}
use Rattle.lam_asks.specs.declared.ask.Ask.TheVariants as ask
use Rattle.lam_asks.specs.Suits.{numbers, want_of, fits}
use Rattle.lam_resolve_tree.specs.Tree.{ResolvedType, ResolvedGiven, Expression, Statement, let_slot, if_block, while_block, return_value, throw_value, sync_block, region_block, do_value, set_local, set_field, set_element, Block, block_end, block_more, OtherBlock, no_other, other_block, ResolvedTree}
use Rattle.lam_resolve_tree.specs.Typing as typing
use Rattle.lam_resolve_tree.specs.Typing.{heads_of, given_by, a_local, a_monitor, Scope, with_use, locals_of, is_object, Gives, Stands, Returning, in_region, in_function, Returns, after, IsStatement, IsBlock, IsOther, block_ends, other_ends}
use Rattle.lam_meaning.specs.Trees.{Own, asked, with_local, local, End, goes, raises, leaves, Tree, and_then}
use Rattle.lam_meaning.specs.Means.{At, may_write, Caller, Does, Open, take, give_back, returns, captured, caught_end, body_end, enter_reply, inside, throws, eval, eval_option, exec, exec_block, exec_other}
use Rattle.lam_meaning_typed.proofs.Sorts.{Sorts, IsWell}
use Rattle.lam_meaning_typed.proofs.Places.{an_int, GivesA, by_number}
use Rattle.lam_meaning_typed.proofs.Locals.{Fit, fit_on, fit_within, Within, slot_here, set_with, set_old, let_fit, within_new, within_after, fit_head, captured_are, length-captured}
use Rattle.lam_meaning_typed.proofs.Trees.{EndBy, end_tree, weaker, then_tree, done_tree, always_tree, unless_tree, object_tree, array_tree, thing_tree, truth_tree, number_tree, region_tree, within_tree, spend_tree}
use Rattle.lam_meaning_typed.proofs.Expressions.{Values, CallsWell, keeps, and_value, at_place, eval_tree}

-- the slots of the open `sync`s hold what has a monitor
abbrev pub AreOpen : Scope → Open → Type 0
AreOpen env [] = Unit {0}
AreOpen env (x ∷ os) = ((t : ResolvedType) × (env x ≡ Some (a_monitor t)) × (is_object t ≡ true)) × AreOpen env os

open_within : (env env' : Scope) (os : Open) → Within env env' → AreOpen env os → AreOpen env' os
open_within env env' [] w h = tt
open_within env env' (x ∷ os) w h = ((h.0.0, w x (a_monitor h.0.0) h.0.1, h.0.2), open_within env env' os w h.1)

module _ {r : ResolvedTree} (S : Sorts r) where
  -- what a function returns
  abbrev pub Result : S.Known → Returning → Value → Type 0
  Result G in_region v = ⊥
  Result G (in_function res) v = GivesA S G (given_by res) v

  -- it goes on with the locals of `env'` and where it does not end, and a fault finds those of `env`
  abbrev pub Goes : ℕ → Returning → Scope → Scope → Bool → S.Known → End (Unit {0}) → Type 0
  Goes size ret env env' last G = EndBy (λ u o. Fit S G size env' o.locals × (last ≡ false)) (λ o. Fit S G size env o.locals) (λ v. Result G ret v)

  abbrev pub OfStatement : List ResolvedType → Returning → Scope → Statement → S.Known → End (Unit {0}) → Type 0
  OfStatement slots ret env s G = Goes (length slots) ret env (after slots env s) (typing.ends s) G

  abbrev pub OfBlock : List ResolvedType → Returning → Scope → Bool → S.Known → End (Unit {0}) → Type 0
  OfBlock slots ret env last G = Goes (length slots) ret env env last G

  -- a statement, each time that it is done
  abbrev pub DoesWell : (Open → Statement → Does) → Type 0
  DoesWell does =
      (os : Open) (slots : List ResolvedType) (ret : Returning) (env : Scope) (s : Statement) → IsStatement (heads_of r) slots ret env s → AreOpen env os → (p : At) (n : ℕ) (o : Own) (G : S.Known) → Fit S G (length slots) env o.locals → IsWell S (OfStatement slots ret env s) G (does os s p n o)

  give_tree : (E : S.Known → End (Unit {0}) → Type 0) (G : S.Known) (t : ResolvedType) (v : Value) (n : ℕ) (o : Own) → is_object t ≡ true → S.Is G t v → ((H : S.Known) → S.Grows G H → (f : Fault) → E H (raises f n o)) → E G (raises Null n o) → ((H : S.Known) → S.Grows G H → E H (goes tt n o)) → IsWell S E G (give_back v n o)
  give_tree E G t v n o is h rs null g = thing_tree S E G t v n o _ is h null (λ x. done_tree S E G (ask.MonLeave x) tt n o (S.simple G numbers (ask.MonLeave x) refl (λ u. refl)) refl rs g)

  take_tree : (E : S.Known → End (Unit {0}) → Type 0) (G : S.Known) (t : ResolvedType) (v : Value) (n : ℕ) (o : Own) → is_object t ≡ true → S.Is G t v → ((H : S.Known) → S.Grows G H → (f : Fault) → E H (raises f n o)) → E G (raises Null n o) → ((H : S.Known) → S.Grows G H → E H (goes tt n o)) → IsWell S E G (take v n o)
  take_tree E G t v n o is h rs null g = thing_tree S E G t v n o _ is h null (λ x. done_tree S E G (ask.MonEnter x) tt n o (S.simple G numbers (ask.MonEnter x) refl (λ u. refl)) refl rs g)

  throw_tree : (E : S.Known → End (Unit {0}) → Type 0) (G : S.Known) (v : Value) (n : ℕ) (o : Own) → S.Is G int v → ((f : Fault) → E G (raises f n o)) → IsWell S E G (throws v n o)
  throw_tree E G v n o h rs = by_number S G (λ v. IsWell S E G (throws v n o)) v h (λ z. rs (Thrown z))

  -- a `return`, with the monitors of the open `sync`s
  returns_tree : (size : ℕ) (env : Scope) (E : S.Known → End (Unit {0}) → Type 0) (G : S.Known) (os : Open) (v : Value) (n : ℕ) (o : Own) → AreOpen env os → ((H : S.Known) → S.Grows G H → (f : Fault) (n : ℕ) (o : Own) → Fit S H size env o.locals → E H (raises f n o)) → ((H : S.Known) → S.Grows G H → (n : ℕ) (o : Own) → E H (leaves v n o)) → Fit S G size env o.locals → IsWell S E G (returns os v n o)
  returns_tree size env E G [] v n o h rs k l = k G (S.stays G) n o
  returns_tree size env E G (x ∷ os) v n o h rs k l =
      let In = Values S size env (λ G (u : Unit {0}). Unit {0}) in
      then_tree S In E G _ _ (give_tree In G h.0.0 (local o x) n o h.0.2 (l.typed x (a_monitor h.0.0) h.0.1) (λ H m f. keeps S size env G o l H m) l (λ H m. (tt, keeps S size env G o l H m))) (λ H m f n o k. rs H m f n o k) (λ H m v n o k. absurd k)
      (λ H m u n o k2. returns_tree size env E H os v n o h.1 (λ J later. rs J (S.further G H J m later)) (λ J later. k J (S.further G H J m later)) k2.1)

  -- ---- regions

  -- the locals of a unit of its own, with what is around it unchanged
  module _ (E : S.Known → End (Unit {0}) → Type 0) (outer : Own) (G : S.Known) (on : (H : S.Known) → S.Grows G H → (n : ℕ) → E H (goes tt n outer)) (fault : (H : S.Known) → S.Grows G H → (f : Fault) (n : ℕ) → E H (raises f n outer)) where
    caught_tree : (size : ℕ) (env : Scope) (last : Bool) (H : S.Known) → S.Grows G H → (e : End (Unit {0})) → Goes size in_region env env last H e → IsWell S E H (caught_end outer e)
    caught_tree size env last H m (goes u n o) h = done_tree S E H ask.Leave tt n outer (S.simple H numbers ask.Leave refl (λ u. refl)) refl (λ J l f. fault J (S.further G H J m l) f n) (λ J l. on J (S.further G H J m l) n)
    caught_tree size env last H m (raises f n o) h = done_tree S E H (ask.Suppressed f) tt n outer (S.simple H numbers (ask.Suppressed f) refl (λ u. refl)) refl (λ J l f. fault J (S.further G H J m l) f n) (λ J l. on J (S.further G H J m l) n)
    caught_tree size env last H m (leaves v n o) h = absurd h

    abbrev Caught : ℕ → Scope → S.Known → End (Unit {0}) → Type 0
    Caught size env H = EndBy (λ u o. Fit S H size env o.locals) (λ o. ⊥) (λ v. ⊥)

    body_tree : (size : ℕ) (env env' : Scope) (last caught : Bool) (slot : ℕ) (handler : ℕ → Own → Tree (Unit {0})) → ((H : S.Known) (z : _) (o : Own) → Fit S H size env o.locals → Fit S H size env' (with_local o slot (Int z)).locals) → ((H : S.Known) (n : ℕ) (o : Own) → Fit S H size env' o.locals → IsWell S (Goes size in_region env' env' caught) H (handler n o)) → (H : S.Known) → S.Grows G H → (e : End (Unit {0})) → Goes size in_region env env last H e → IsWell S E H (body_end outer slot handler e)
    body_tree size env env' last caught slot handler set does H m (goes u n o) h = done_tree S E H ask.Leave tt n outer (S.simple H numbers ask.Leave refl (λ u. refl)) refl (λ J l f. fault J (S.further G H J m l) f n) (λ J l. on J (S.further G H J m l) n)
    body_tree size env env' last caught slot handler set does H m (raises f n o) h =
        then_tree S (Caught size env) E H _ _ (always_tree S (Caught size env) H (ask.Caught f) tt n o (S.simple H numbers (ask.Caught f) refl (λ u. refl)) refl (λ J l. fit_on S H J l size env o.locals h)) (λ J l f n o k. absurd k) (λ J l v n o k. absurd k)
        (λ J l u n o k. end_tree S (Goes size in_region env' env' caught) E J _ _ (does J n (with_local o slot (Int (fault_number f))) (set J (fault_number f) o k)) (λ K a e k. caught_tree size env' caught K (S.further G J K (S.further G H J m l) a) e k))
    body_tree size env env' last caught slot handler set does H m (leaves v n o) h = absurd h

    enter_tree : (l : Label) (k : Caps) (number : ℕ) (args : List Value) (t : Tree (Unit {0})) (n : ℕ) (H : S.Known) → S.Grows G H → IsWell S E H t → (x : Answer) → fits (want_of numbers (ask.Enter l k number args)) x ≡ true → IsWell S E H (enter_reply t n outer x)
    enter_tree l k number args t n H m h Entered s = h
    enter_tree l k number args t n H m h (Refused d) s = fault H m _ n
    enter_tree l k number args t n H m h (Failed f) s = fault H m f n
    enter_tree l k number args t n H m h Done s = absurd cc
    enter_tree l k number args t n H m h (Val v) s = absurd cc

  -- ---- statements

  module _ (call : Caller) (well : CallsWell S call) (again : Open → Statement → Does) (does : DoesWell again) where
    -- an operand
    operand_tree : {A : Type 0} (size : ℕ) (env : Scope) (t : ResolvedType) (e : Expression) (E : S.Known → End A → Type 0) (G : S.Known) (p : At) (n : ℕ) (o : Own) (go : Value → ℕ → Own → Tree A) → Stands (heads_of r) env (exactly t) e → ((H : S.Known) → S.Grows G H → (f : Fault) (n : ℕ) (o : Own) → Fit S H size env o.locals → E H (raises f n o)) → Fit S G size env o.locals → ((H : S.Known) → S.Grows G H → (v : Value) (n : ℕ) (o : Own) → S.Is H t v → Fit S H size env o.locals → IsWell S E H (go v n o)) → IsWell S E G (and_then (eval r call e p n o) go)
    operand_tree size env t e E G p n o go h f l on = and_value S size env (λ G v. S.Is G t v) E G _ go f (at_place S size env G t h.0 _ h.2 (eval_tree S size env call well G e h.0 h.1 p n o l)) on

    value_tree : {A : Type 0} (size : ℕ) (env : Scope) (g : ResolvedGiven) (e : Expression) (E : S.Known → End A → Type 0) (G : S.Known) (p : At) (n : ℕ) (o : Own) (go : Value → ℕ → Own → Tree A) → Gives (heads_of r) env e g → ((H : S.Known) → S.Grows G H → (f : Fault) (n : ℕ) (o : Own) → Fit S H size env o.locals → E H (raises f n o)) → Fit S G size env o.locals → ((H : S.Known) → S.Grows G H → (v : Value) (n : ℕ) (o : Own) → GivesA S H g v → Fit S H size env o.locals → IsWell S E H (go v n o)) → IsWell S E G (and_then (eval r call e p n o) go)
    value_tree size env g e E G p n o go h f l on = and_value S size env (λ G v. GivesA S G g v) E G _ go f (eval_tree S size env call well G e g h p n o l) on

    return_tree : (os : Open) (size : ℕ) (ret : Returning) (env : Scope) (E : S.Known → End (Unit {0}) → Type 0) (e : Option Expression) → Returns (heads_of r) ret env e → AreOpen env os → ((H : S.Known) (f : Fault) (n : ℕ) (o : Own) → Fit S H size env o.locals → E H (raises f n o)) → ((H : S.Known) (v : Value) (n : ℕ) (o : Own) → Result H ret v → E H (leaves v n o)) → (p : At) (n : ℕ) (o : Own) (G : S.Known) → Fit S G size env o.locals → IsWell S E G (and_then (eval_option r call e p n o) (λ v n o. returns os v n o))
    return_tree os size (in_function None) env E None h op f k p n o G l =
        and_value S size env (λ G v. Unit {0}) E G _ _ (λ H m. f H) (tt, l) (λ H m v n o i l. returns_tree size env E H os v n o op (λ J m. f J) (λ J m n o. k J v n o tt) l)
    return_tree os size (in_function (Some t)) env E (Some e) h op f k p n o G l =
        operand_tree size env t e E G p n o _ h (λ H m. f H) l (λ H m v n o i l. returns_tree size env E H os v n o op (λ J m. f J) (λ J m n o. k J v n o (S.is_on H J m t v i)) l)
    return_tree os size ret env E e h op f k p n o G l = absurd h

    mutual
      pub exec_tree : (os : Open) (slots : List ResolvedType) (ret : Returning) (env : Scope) (s : Statement) → IsStatement (heads_of r) slots ret env s → AreOpen env os → (p : At) (n : ℕ) (o : Own) (G : S.Known) → Fit S G (length slots) env o.locals → IsWell S (OfStatement slots ret env s) G (exec r call again os s p n o)
      exec_tree os slots ret env (let_slot x e) (t, hf, he) op p n o G l =
          operand_tree (length slots) env t e (OfStatement slots ret env (let_slot x e)) G p n o _ he (λ H m f n o l. l) l (λ H m v n o i l. (let_fit S H slots env o.locals x t v hf.0 i l, refl))
      exec_tree os slots ret env (set_local x e) (t, hx, he) op p n o G l =
          operand_tree (length slots) env t e (OfStatement slots ret env (set_local x e)) G p n o _ he (λ H m f n o l. l) l (λ H m v n o i l. (set_old S H (length slots) env o.locals x (a_local t) v hx i l, refl))
      exec_tree os slots ret env (do_value e) (g, he) op p n o G l = value_tree (length slots) env g e (OfStatement slots ret env (do_value e)) G p n o _ he (λ H m f n o l. l) l (λ H m v n o i l. (l, refl))
      exec_tree os slots ret env (set_field e c f t v) (he, hf, hv) op p n o G l =
          let E = OfStatement slots ret env (set_field e c f t v) in
          value_tree (length slots) env (a_value (object c)) e E G p n o _ he (λ H m f n o l. l) l (λ H m x n o ix l.
          operand_tree (length slots) env t v E H p n o _ hv (λ H m f n o l. l) l (λ J m v n o iv l.
          let keep = keeps S (length slots) env J o l in
          object_tree S E J c x n o _ (S.is_on H J m (object c) x ix) l (λ x k. unless_tree S E J (may_write p x) n o _ (λ K m. keep K m)
          (done_tree S E J (ask.Write (Obj x) f v) tt n o (S.writes_field J c f t x v hf.0 hf.1 hf.2 k iv) refl (λ K m f. keep K m) (λ K m. (keep K m, refl))))))
      exec_tree os slots ret env (set_element e i t v) (he, hi, hv) op p n o G l =
          let E = OfStatement slots ret env (set_element e i t v) in
          value_tree (length slots) env (a_value (array t)) e E G p n o _ he (λ H m f n o l. l) l (λ H m x n o ix l.
          operand_tree (length slots) env int i E H p n o _ hi (λ H m f n o l. l) l (λ J m2 i n o ii l.
          operand_tree (length slots) env t v E J p n o _ hv (λ H m f n o l. l) l (λ K m3 v n o iv l.
          let keep = keeps S (length slots) env K o l in
          array_tree S E K t x n o _ (S.is_on J K m3 (array t) x (S.is_on H J m2 (array t) x ix)) l (λ x len k. unless_tree S E K (may_write p x) n o _ (λ L m. keep L m)
          (number_tree S E K i _ (S.is_on J K m3 int i ii) (λ z. within_tree S E K z len n o _ l (λ at lt.
          done_tree S E K (ask.Write (Arr x len) at v) tt n o (S.writes_element K t x len at v lt k iv) refl (λ L m f. keep L m) (λ L m. (keep L m, refl)))))))))
      exec_tree os slots ret env (if_block e body other) (he, hb, ho) op p n o G l =
          let E = OfStatement slots ret env (if_block e body other) in
          operand_tree (length slots) env bool e E G p n o _ he (λ H m f n o l. l) l (λ H m v n o i l.
          truth_tree S E H v _ _ i
          (weaker S (OfBlock slots ret env (block_ends false body)) E H _ first (block_tree os slots ret env body false hb op refl p n o H l))
          (weaker S (OfBlock slots ret env (other_ends other)) E H _ second (other_tree os slots ret env other ho op p n o H l)))
        where
          and_false : (a b : Bool) → b ≡ false → (a && b) ≡ false
          and_false true b e = e
          and_false false b e = refl

          first : (H : S.Known) (x : End (Unit {0})) → OfBlock slots ret env (block_ends false body) H x → OfStatement slots ret env (if_block e body other) H x
          first H (goes u n o) k = (k.0, ap (λ b. b && other_ends other) k.1)
          first H (raises f n o) k = k
          first H (leaves v n o) k = k

          second : (H : S.Known) (x : End (Unit {0})) → OfBlock slots ret env (other_ends other) H x → OfStatement slots ret env (if_block e body other) H x
          second H (goes u n o) k = (k.0, and_false (block_ends false body) (other_ends other) k.1)
          second H (raises f n o) k = k
          second H (leaves v n o) k = k
      exec_tree os slots ret env (while_block e body) h op p n o G l =
          let E = OfStatement slots ret env (while_block e body) in
          operand_tree (length slots) env bool e E G p n o _ h.0 (λ H m f n o l. l) l (λ H m v n o i l.
          truth_tree S E H v _ _ i
          (spend_tree S E H n _ (λ n.
          then_tree S (OfBlock slots ret env (block_ends false body)) E H _ _ (block_tree os slots ret env body false h.1 op refl p n o H l) (λ J m f n o k. k) (λ J m v n o k. k) (λ J m u n o k. does os slots ret env (while_block e body) h op p n o J k.0)))
          (l, refl))
      exec_tree os slots ret env (return_value e) h op p n o G l = return_tree os (length slots) ret env (OfStatement slots ret env (return_value e)) e h op (λ H f n o l. l) (λ H v n o k. k) p n o G l
      exec_tree os slots ret env (throw_value e) h op p n o G l =
          let E = OfStatement slots ret env (throw_value e) in
          operand_tree (length slots) env int e E G p n o _ h (λ H m f n o l. l) l (λ H m v n o i l. throw_tree E H v n o i (λ f. l))
      exec_tree os slots ret env (sync_block x e body) (t, hf, he, is, hb) op p n o G l =
          let E = OfStatement slots ret env (sync_block x e body) in
          let env' = with_use env x (a_monitor t) in
          let w = within_new env x (a_monitor t) hf.1 in
          let here = slot_here env x (a_monitor t) in
          let out : (H : S.Known) (ls : List Value) → Fit S H (length slots) env' ls → Fit S H (length slots) env ls = λ H ls m. fit_within S H (length slots) env env' ls w m in
          let In = Values S (length slots) env' (λ G (u : Unit {0}). Unit {0}) in
          value_tree (length slots) env (a_value t) e E G p n o _ he (λ H m f n o l. l) l (λ H m1 v n o i l.
          let m = set_with S H (length slots) env o.locals x (a_monitor t) v (slice_get_within slots x t hf.0) i l in
          let keep : (K : S.Known) → S.Grows H K → Fit S K (length slots) env' (with_local o x v).locals = λ K a. fit_on S H K a (length slots) env' (with_local o x v).locals m in
          then_tree S In E H _ _ (take_tree In H t v n (with_local o x v) is i (λ K a f. keep K a) m (λ K a. (tt, keep K a))) (λ J a f n o k. out J o.locals k) (λ J a v n o k. absurd k) (λ J a u n o m.
          then_tree S (OfBlock slots ret env' (block_ends false body)) E J _ _ (block_tree (x ∷ os) slots ret env' body false hb ((t, here, is), open_within env env' os w op) refl p n o J m.1) (λ K a f n o k. out K o.locals k) (λ K a v n o k. k) (λ K a u n o m.
          let l = out K o.locals m.0 in
          let keep = keeps S (length slots) env K o l in
          give_tree E K t (local o x) n o is (m.0.typed x (a_monitor t) here) (λ L a f. keep L a) l (λ L a. (keep L a, refl)))))
      exec_tree os slots ret env (region_block number l c from own body slot handler) (ts, more, hl, hc, hcap, hown, hb, hf, hh) op p n o G lo =
          let E = OfStatement slots ret env (region_block number l c from own body slot handler) in
          let env' = with_use (locals_of ts) slot (a_local int) in
          operand_tree (length slots) env label l E G p n o _ hl (λ H m f n o l. l) lo (λ H m l n o il lo.
          operand_tree (length slots) env caps c E H p n o _ hc (λ H m f n o l. l) lo (λ J m c n o ic lo.
          region_tree S E J l c n o _ (S.is_on H J m label l il) ic lo (λ l k.
          let args = map (λ x. local o x) from in
          let first : Own = record { locals = captured o from (length own); caps = k } in
          let keep = keeps S (length slots) env J o lo in (
            int,
            S.simple J numbers (ask.Enter l k number args) refl (λ u. refl),
            λ K x a y.
                enter_tree E o J (λ L a n. (keep L a, refl)) (λ L a f n. keep L a) l k number args _ n K a
                (end_tree S (OfBlock own in_region (locals_of ts) (block_ends false body)) E K (exec_block r call again [] body (inside l) n first) (body_end o slot (λ n o. exec_block r call again [] handler (inside l) n o))
                (block_tree [] own in_region (locals_of ts) body false hb tt refl (inside l) n first K (head_fit K o from own ts more hcap hown (keep K a)))
                (λ L b e k. body_tree E o J (λ L a n. (keep L a, refl)) (λ L a f n. keep L a) (length own) (locals_of ts) env' (block_ends false body) (block_ends false handler) slot _
                (λ L z o m. set_with S L (length own) (locals_of ts) o.locals slot (a_local int) (Int z) (slice_get_within own slot int hf.0) (an_int S L z) m) (λ L n o m. block_tree [] own in_region env' handler false hh tt refl (inside l) n o L m) L (S.further J K L a b) e k)) x (S.suits K int (asked numbers (ask.Enter l k number args)) x y),
          ))))
        where
          head_fit : (G : S.Known) (o : Own) (from : List ℕ) (own ts more : List ResolvedType) → typing.AreCaptured env from ts → own ≡ ts ++ more → Fit S G (length slots) env o.locals → Fit S G (length own) (locals_of ts) (captured o from (length own))
          head_fit G o from own ts more hcap hown lo =
              subst (λ k. Fit S G (length own) (locals_of ts) (map (λ x. local o x) from ++ replicate (length own - k) Nothing)) (length-captured o from)
              (fit_head S G own ts more (map (λ x. local o x) from) hown (captured_are S G (length slots) env o from ts hcap lo))

      pub block_tree : (os : Open) (slots : List ResolvedType) (ret : Returning) (env : Scope) (b : Block) (before : Bool) → IsBlock (heads_of r) slots ret env b → AreOpen env os → before ≡ false → (p : At) (n : ℕ) (o : Own) (G : S.Known) → Fit S G (length slots) env o.locals → IsWell S (OfBlock slots ret env (block_ends before b)) G (exec_block r call again os b p n o)
      block_tree os slots ret env block_end before h op e p n o G l = (l, e)
      block_tree os slots ret env (block_more s rest) before h op e p n o G l =
          let w = within_after (heads_of r) slots ret env s h.0 in
          let E = OfBlock slots ret env (block_ends (typing.ends s) rest) in
          then_tree S (OfStatement slots ret env s) E G _ _ (exec_tree os slots ret env s h.0 op p n o G l) (λ H m f n o k. k) (λ H m v n o k. k) (λ H m u n o k.
          weaker S (OfBlock slots ret (after slots env s) (block_ends (typing.ends s) rest)) E H _ (λ J x m. back w J x m) (block_tree os slots ret (after slots env s) rest (typing.ends s) h.1 (open_within env (after slots env s) os w op) k.1 p n o H k.0))
        where
          back : Within env (after slots env s) → (H : S.Known) (x : End (Unit {0})) → OfBlock slots ret (after slots env s) (block_ends (typing.ends s) rest) H x → OfBlock slots ret env (block_ends (typing.ends s) rest) H x
          back w H (goes u n o) m = (fit_within S H (length slots) env (after slots env s) o.locals w m.0, m.1)
          back w H (raises f n o) m = fit_within S H (length slots) env (after slots env s) o.locals w m
          back w H (leaves v n o) m = m

      other_tree : (os : Open) (slots : List ResolvedType) (ret : Returning) (env : Scope) (b : OtherBlock) → IsOther (heads_of r) slots ret env b → AreOpen env os → (p : At) (n : ℕ) (o : Own) (G : S.Known) → Fit S G (length slots) env o.locals → IsWell S (OfBlock slots ret env (other_ends b)) G (exec_other r call again os b p n o)
      other_tree os slots ret env no_other h op p n o G l = (l, refl)
      other_tree os slots ret env (other_block body) h op p n o G l = block_tree os slots ret env body false h op refl p n o G l
