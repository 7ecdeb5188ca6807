-- What the sweeps of a unit end with is what stands after its last round.
use Rattle.std.proofs.Common.{IsTrue, ◌≡◌, ℕ, zero, suc, ◌+◌, ◌<◌, ◌≤◌, ◌⊎◌, inl, inr, List, [], ◌∷◌, ◌++◌, Bool, true, false, if◌then◌else◌, Option, Some, None, length, get_or, slice_get, slice_set, drop, refl, sym, ap, ap₂, ◌∙◌, subst, arith, append_assoc, ⊎_elim, length-set, length-append}
use Rattle.std.specs.Prelude.{option_map}
use Rattle.std.proofs.lemmas.Bool.{cases_eq, cases_lt}
use Rattle.std.proofs.lemmas.List.{drop_more, drop_all, append-nil}
use Rattle.std.proofs.lemmas.Option.{slice_get_within, slice_get-get_or}
use Rattle.lam_bytecode.specs.Codes.{CodeTree}
use Rattle.lam_bytecode.specs.declared.unit.CodeUnit.{CodeUnit}
use Rattle.lam_bytecode.specs.declared.op.Op.{Op}
use Rattle.lam_bytecode.specs.declared.op.Op.TheVariants.{Jump, JumpIfFalse, Return, Throw, LeaveRegion}
use Rattle.guarded_code.specs.Rounds.{Table, Found, Holds, Broke, OnFound, and_then, Sent, blank, placed, into, give, first, Stands, AllStand, AllSay}
use Rattle.guarded_code.specs.Descriptions.{Description, meet, starts}
use Rattle.guarded_code.specs.Changes.{change, changed, goes, sent, passed, passes, descriptions}
use Rattle.guarded_code.specs.Says.{Says, Describes}
use Rattle.guarded_code.proofs.Tables.{none_some, some_inj, get_set_same, get_set_other, blank_none, blank_long}
use Rattle.guarded_code.proofs.Order.{says_same, says_trans, meet_first, meet_second, meet_best}
use Rattle.guarded_code.proofs.Passing.{laws, map_some, again_more}
use Rattle.guarded_code.proofs.RoundFacts.{meets_rules, says_most}
use Rattle.guarded_code.specs.Breaks.{tests_again}
use Rattle.code_verify.specs.Redundant.{is_redundant, redundant, redundant_by, redundant_in}
use Rattle.code_verify.specs.Sweeps.{falls, jumps, arrived, acted, onward, Brought, MeetsAll, SaysMore, Lowers, Rests, Ends}
use Rattle.code_verify.proofs.Entries.{Passing}

-- ---- tables that say less
more_same : (t : Table Description) → SaysMore t t
more_same t = record { size = refl; says = λ a d e. (d, e, says_same d) }

more_trans : (r s t : Table Description) → SaysMore r s → SaysMore s t → SaysMore r t
more_trans r s t f g =
    record {
      size = f.size ∙ g.size;
      says = λ a d e. let x = f.says a d e in let y = g.says a x.0 x.1 in (y.0, y.1, says_trans d x.0 y.0 x.2 y.2);
    }

stands_below : (s t : Table Description) (b : ℕ) (e : Description) → SaysMore s t → Stands Description Says s b e → Stands Description Says t b e
stands_below s t b e f h = let y = f.says b h.0 h.1 in (y.0, y.1, says_trans e h.0 y.0 h.2 y.2)

all_below : (s t : Table Description) (ps : Sent Description) → SaysMore s t → AllStand Description Says s ps → AllStand Description Says t ps
all_below s t [] f h = tt
all_below s t (p ∷ ps) f h = (stands_below s t p.0 p.1 f h.0, all_below s t ps f h.1)

set_below : (s : Table Description) (b : ℕ) (o : Option Description) (m : Description) → slice_get s b ≡ Some o → ((d : Description) → o ≡ Some d → Says d m) → SaysMore s (slice_set s b (Some m))
set_below s b o m at_b says =
    record {
      size = sym (length-set s b (Some m));
      says = λ a d e. ⊎_elim
          (λ same. (m, subst (λ x. slice_get (slice_set s b (Some m)) x ≡ Some (Some m)) (sym same) (get_set_same s b (Some m) o at_b), says d (some_inj (sym at_b ∙ subst (λ x. slice_get s x ≡ Some (Some d)) same e))))
          (λ other. (d, get_set_other s b a (Some m) other ∙ e, says_same d))
          (cases_eq a b);
    }

set_keeps : (s t : Table Description) (b : ℕ) (o : Option Description) (m x : Description) → SaysMore s t → slice_get s b ≡ Some o → slice_get t b ≡ Some (Some x) → Says m x → SaysMore (slice_set s b (Some m)) t
set_keeps s t b o m x f at_s at_t says =
    record {
      size = length-set s b (Some m) ∙ f.size;
      says = λ a d e. ⊎_elim
          (λ same. let eq : d ≡ m = some_inj (some_inj (sym (subst (λ y. slice_get (slice_set s b (Some m)) y ≡ Some (Some d)) same e) ∙ get_set_same s b (Some m) o at_s)) in
          (x, ap (slice_get t) same ∙ at_t, subst (λ y. Says y x) (sym eq) says))
          (λ other. f.says a d (sym (get_set_other s b a (Some m) other) ∙ e))
          (cases_eq a b);
    }

-- ---- one description that comes to an address
holds_inj : (s t : Table Description) → Holds s ≡ Holds t → s ≡ t
holds_inj s t e = cc e

-- from s to s' a description came to the address b
record Came (s s' : Table Description) (b : ℕ) (e : Description) : Type 0 where
  below : SaysMore s s'
  stands : Stands Description Says s' b e
  keeps : (t : Table Description) → SaysMore s t → Stands Description Says t b e → SaysMore s' t

came_set : (s s' : Table Description) (b : ℕ) (o : Option Description) (e m : Description) → slice_get s b ≡ Some o → slice_set s b (Some m) ≡ s' → ((d : Description) → o ≡ Some d → Says d m) → Says e m → ((t : Table Description) → SaysMore s t → (x : Description) → slice_get t b ≡ Some (Some x) → Says e x → Says m x) → Came s s' b e
came_set s s' b o e m at_b is less says best =
    subst (λ z. Came s z b e) is
    (record {
      below = set_below s b o m at_b less;
      stands = (m, get_set_same s b (Some m) o at_b, says);
      keeps = λ t f h. set_keeps s t b o m h.0 f at_b h.1 (best t f h.0 h.1 h.2);
    })

met_best : (s t : Table Description) (b : ℕ) (d e m x : Description) → slice_get s b ≡ Some (Some d) → meet d e ≡ Some m → SaysMore s t → slice_get t b ≡ Some (Some x) → Says e x → Says m x
met_best s t b d e m x at_b em f at_t says =
    let old = f.says b d at_b in
    let eq : old.0 ≡ x = some_inj (some_inj (sym old.1 ∙ at_t)) in
    let best = meet_best d e x (subst (λ y. Says d y) eq old.2) says in
    subst (λ y. Says y x) (some_inj (sym best.1 ∙ em)) best.2

came : (p : Passing) (s s' : Table Description) (b : ℕ) (e : Description) → (o : Option (Option Description)) → slice_get s b ≡ o → into Description meet p o s b e ≡ Holds s' → Came s s' b e
came p s s' b e None at_b is = absurd (cc is)
came p s s' b e (Some None) at_b is =
    came_set s s' b None e e at_b (holds_inj _ _ is) (λ d bad. none_some bad) (says_same e) (λ t f x at_t says. says)
came p s s' b e (Some (Some d)) at_b is = by (meet d e) refl is
  where
    by : (m : Option Description) → meet d e ≡ m → placed Description meet p s b m ≡ Holds s' → Came s s' b e
    by None em is = absurd (cc is)
    by (Some m) em is =
        came_set s s' b (Some d) e m at_b (holds_inj _ _ is) (λ x ex. subst (λ y. Says y m) (some_inj ex) (meet_first d e m em)) (meet_second d e m em)
        (λ t f x at_t says. met_best s t b d e m x at_b em f at_t says)

-- ---- and descriptions that come, one after another
record AllCame (s s' : Table Description) (ps : Sent Description) : Type 0 where
  below : SaysMore s s'
  stand : AllStand Description Says s' ps
  keeps : (t : Table Description) → SaysMore s t → AllStand Description Says t ps → SaysMore s' t

then_parts : (o : Found Description) (go : Table Description → Found Description) (s' : Table Description) → and_then o go ≡ Holds s' → (s1 : Table Description) × (o ≡ Holds s1) × (go s1 ≡ Holds s')
then_parts (Holds s1) go s' e = (s1, refl, e)
then_parts (Broke a) go s' e = absurd (cc e)

all_came : (p : Passing) (ps : Sent Description) (s s' : Table Description) → give Description meet p s ps ≡ Holds s' → AllCame s s' ps
all_came p [] s s' e =
    subst (λ z. AllCame s z []) (holds_inj _ _ e) (record { below = more_same s; stand = tt; keeps = λ t f h. f })
all_came p (q ∷ ps) s s' e =
    let parts = then_parts (into Description meet p (slice_get s q.0) s q.0 q.1) (λ t. give Description meet p t ps) s' e in
    let one = came p s parts.0 q.0 q.1 (slice_get s q.0) refl parts.1 in
    let rest = all_came p ps parts.0 s' parts.2 in
    record {
      below = more_trans s parts.0 s' one.below rest.below;
      stand = (stands_below parts.0 s' q.0 q.1 rest.below one.stands, rest.stand);
      keeps = λ t f h. rest.keeps t (one.keeps t f h.0) h.1;
    }

-- ---- what is left of an operation goes on
-- what stands at an address says no more than what falls to it
abbrev RowStands : Table Description → ℕ → Option Description → Type 0
RowStands t a None = Unit {0}
RowStands t a (Some d) = Stands Description Says t a d

-- what a jump brings
abbrev sent_to : Option ℕ → Description → Sent Description
sent_to None e = []
sent_to (Some b) e = (b, e) ∷ []

abbrev away : Op → Option Description → Sent Description
away op None = []
away op (Some e) = sent_to (jumps op) e

goes_apart : (op : Op) (t : Table Description) (a : ℕ) (e : Description) → AllStand Description Says t (sent (goes a op) e) → AllStand Description Says t (sent_to (jumps op) e) × RowStands t (a + 1) (onward op (Some e))
goes_apart (Jump to) t a e h = (h, tt)
goes_apart (JumpIfFalse to) t a e h = (h.1, h.0)
goes_apart Return t a e h = (tt, tt)
goes_apart Throw t a e h = (tt, tt)
goes_apart LeaveRegion t a e h = (tt, tt)
goes_apart op t a e h = (tt, h.0)

passes_left : (code : CodeTree) (ops : List Op) (a : ℕ) (op : Op) (d e : Description) → slice_get ops a ≡ Some op → changed (change code op) d ≡ Some e → passes code ops a d ≡ Some (sent (goes a op) e)
passes_left code ops a op d e at h = ap (λ o. passed code o a d) at ∙ ap (option_map (sent (goes a op))) h

stand_more : (t : Table Description) (ps qs : Sent Description) → AllSay Description Says ps qs → AllStand Description Says t qs → AllStand Description Says t ps
stand_more t [] qs say stand = tt
stand_more t (p ∷ ps) [] say stand = absurd say
stand_more t (p ∷ ps) (q ∷ qs) say stand =
    ((stand.0.0, ap (slice_get t) say.0 ∙ stand.0.1, says_trans p.1 q.1 stand.0.0 say.1 stand.0.2), stand_more t ps qs say.2 stand.1)

-- ---- a table that meets the rules says no more than what stands in a sweep
row_sound : (s t : Table Description) (a : ℕ) (o r row : Option Description) → SaysMore s t → slice_get s a ≡ Some o → RowStands t a r → arrived r o ≡ Some row → RowStands t a row
row_sound s t a None None row f at h e = subst (RowStands t a) (some_inj e) tt
row_sound s t a (Some d) None row f at h e = subst (RowStands t a) (some_inj e) (f.says a d at)
row_sound s t a None (Some r) row f at h e = subst (RowStands t a) (some_inj e) h
row_sound s t a (Some d) (Some r) row f at h e =
    let m = map_some (λ x. Some x) (meet r d) row e in
    let old = f.says a d at in
    let eq : old.0 ≡ h.0 = some_inj (some_inj (sym old.1 ∙ h.1)) in
    let best = meet_best r d h.0 h.2 (subst (λ y. Says d y) eq old.2) in
    subst (RowStands t a) m.2 (h.0, h.1, subst (λ y. Says y h.0) (some_inj (sym best.1 ∙ m.1)) best.2)

left_sound : (code : CodeTree) (ops : List Op) (t : Table Description) (a : ℕ) (op : Op) (row left : Option Description) → MeetsAll code ops t → slice_get ops a ≡ Some op → RowStands t a row → acted code op row ≡ Some left → AllStand Description Says t (away op left) × RowStands t (a + 1) (onward op left)
left_sound code ops t a op None left settled at h e = subst (λ l. AllStand Description Says t (away op l) × RowStands t (a + 1) (onward op l)) (some_inj e) (tt, tt)
left_sound code ops t a op (Some d) left settled at h e =
    let is = map_some (λ x. Some x) (changed (change code op) d) left e in
    let rule = settled a h.0 h.1 in
    let more = (laws code ops).passes_more a d h.0 rule.0 h.2 rule.1 in
    let same : more.0 ≡ sent (goes a op) is.0 = some_inj (sym more.1 ∙ passes_left code ops a op d is.0 at is.1) in
    subst (λ l. AllStand Description Says t (away op l) × RowStands t (a + 1) (onward op l)) is.2
    (goes_apart op t a is.0 (subst (AllStand Description Says t) same (stand_more t more.0 rule.0 more.2 rule.2)))

-- ---- what a jump brings comes to what lies ahead, or to what is kept
-- e, which is left at the address a, stands at the address b where it was brought
abbrev Landed : ℕ → ℕ → Description → Table Description → Table Description → Type 0
Landed a b e k h = ((b ≤ a) × Stands Description Says k b e) ⊎ ((a < b) × Stands Description Says h b e)

record Jumped (a : ℕ) (left : Option Description) (o : Option ℕ) (k h k' h' : Table Description) : Type 0 where
  kept : SaysMore k k'
  ahead : SaysMore h h'
  lands : (e : Description) → left ≡ Some e → (b : ℕ) → o ≡ Some b → Landed a b e k' h'
  keeps : (t : Table Description) → SaysMore k t → SaysMore h t → ((e : Description) → left ≡ Some e → (b : ℕ) → o ≡ Some b → Stands Description Says t b e) → SaysMore k' t × SaysMore h' t

unmoved : (a : ℕ) (left : Option Description) (o : Option ℕ) (k h k' h' : Table Description) → k' ≡ k → h' ≡ h → ((e : Description) → left ≡ Some e → (b : ℕ) → o ≡ Some b → ⊥) → Jumped a left o k h k' h'
unmoved a left o k h k' h' ek eh never =
    subst (λ x. Jumped a left o k h x h') (sym ek) (subst (λ x. Jumped a left o k h k x) (sym eh) (record {
      kept = more_same k;
      ahead = more_same h;
      lands = λ e el b eb. absurd (never e el b eb);
      keeps = λ t f g s. (f, g);
    }))

jumped : (p : Passing) (a : ℕ) (left : Option Description) (o : Option ℕ) (k h k' h' : Table Description) → Brought p a left o k h k' h' → Jumped a left o k h k' h'
jumped p a None o k h k' h' is = unmoved a None o k h k' h' is.0 is.1 (λ e el b eb. none_some el)
jumped p a (Some e) None k h k' h' is = unmoved a (Some e) None k h k' h' is.0 is.1 (λ e el b eb. none_some eb)
jumped p a (Some e) (Some b) k h k' h' is = ⊎_elim further back (cases_lt a b)
  where
    same : (x : Description) → Some e ≡ Some x → (c : ℕ) → Some b ≡ Some c → (Q : ℕ → Description → Type 0) → Q b e → Q c x
    same x ex c ec Q q = subst (λ y. Q y x) (some_inj ec) (subst (λ y. Q b y) (some_inj ex) q)

    further : a < b → Jumped a (Some e) (Some b) k h k' h'
    further lt =
        let done = is.0 lt in
        let one = came p h h' b e (slice_get h b) refl done.0 in
        subst (λ x. Jumped a (Some e) (Some b) k h x h') (sym done.1)
        (record {
          kept = more_same k;
          ahead = one.below;
          lands = λ x ex c ec. same x ex c ec (λ c x. Landed a c x k h') (inr (lt, one.stands));
          keeps = λ t f g s. (f, one.keeps t g (s e refl b refl));
        })

    back : b ≤ a → Jumped a (Some e) (Some b) k h k' h'
    back le =
        let done = is.1 le in
        let one = came p k k' b e (slice_get k b) refl done.0 in
        subst (λ x. Jumped a (Some e) (Some b) k h k' x) (sym done.1)
        (record {
          kept = one.below;
          ahead = more_same h;
          lands = λ x ex c ec. same x ex c ec (λ c x. Landed a c x k' h) (inl (le, one.stands));
          keeps = λ t f g s. (one.keeps t f (s e refl b refl), g);
        })

away_stands : (t : Table Description) (op : Op) (left : Option Description) → AllStand Description Says t (away op left) → (e : Description) → left ≡ Some e → (b : ℕ) → jumps op ≡ Some b → Stands Description Says t b e
away_stands t op left all e el b eb =
    (subst (λ o. AllStand Description Says t (sent_to o e)) eb (subst (λ l. AllStand Description Says t (away op l)) el all)).0

-- ---- rows, one after another
opened : {A : Type 0} (xs : List A) (n : ℕ) (x d : A) → n < length xs → x ≡ get_or xs n d → drop n xs ≡ x ∷ drop (n + 1) xs
opened xs n x d lt e = drop_more xs n d lt ∙ ap (λ y. y ∷ drop (n + 1) xs) (sym e)

before_last : {A : Type 0} (xs : List A) (y : A) (n : ℕ) (x : A) → slice_get xs n ≡ Some x → slice_get (xs ++ y ∷ []) n ≡ Some x
before_last [] y n x e = none_some e
before_last (z ∷ xs) y zero x e = e
before_last (z ∷ xs) y (suc n) x e = before_last xs y n x e

at_last : {A : Type 0} (xs : List A) (y : A) → slice_get (xs ++ y ∷ []) (length xs) ≡ Some y
at_last [] y = refl
at_last (z ∷ xs) y = at_last xs y

last_or : {A : Type 0} (xs : List A) (y : A) (n : ℕ) (x : A) → slice_get (xs ++ y ∷ []) n ≡ Some x → (slice_get xs n ≡ Some x) ⊎ ((n ≡ length xs) × (y ≡ x))
last_or [] y zero x e = inr (refl, some_inj e)
last_or [] y (suc n) x e = none_some e
last_or (z ∷ xs) y zero x e = inl e
last_or (z ∷ xs) y (suc n) x e = ⊎_elim (λ old. inl old) (λ new. inr (ap suc new.0, new.1)) (last_or xs y n x e)

-- ---- what has come to an address
-- what falls says no more than e
abbrev Falls : Option Description → Description → Type 0
Falls None e = ⊥
Falls (Some d) e = Says e d

-- e stands in the rows before the address `at`, or ahead of it, or falls to it
abbrev Reached : Table Description → Table Description → ℕ → Option Description → ℕ → Description → Type 0
Reached w h at r b e = Stands Description Says w b e ⊎ (((at ≤ b) × Stands Description Says h b e) ⊎ ((b ≡ at) × Falls r e))

abbrev AllReached : (ℕ → Description → Type 0) → Sent Description → Type 0
AllReached R [] = Unit {0}
AllReached R (p ∷ ps) = R p.0 p.1 × AllReached R ps

all_reached : (R Q : ℕ → Description → Type 0) (ps : Sent Description) → ((b : ℕ) (e : Description) → R b e → Q b e) → AllReached R ps → AllReached Q ps
all_reached R Q [] f h = tt
all_reached R Q (p ∷ ps) f h = (f p.0 p.1 h.0, all_reached R Q ps f h.1)

all_stand : (t : Table Description) (ps : Sent Description) → AllReached (λ b e. Stands Description Says t b e) ps → AllStand Description Says t ps
all_stand t [] h = tt
all_stand t (p ∷ ps) h = (h.0, all_stand t ps h.1)

goes_reached : (R : ℕ → Description → Type 0) (op : Op) (a : ℕ) (e : Description) → ((b : ℕ) → jumps op ≡ Some b → R b e) → (falls op ≡ true → R (a + 1) e) → AllReached R (sent (goes a op) e)
goes_reached R (Jump to) a e j f = (j to refl, tt)
goes_reached R (JumpIfFalse to) a e j f = (f refl, (j to refl, tt))
goes_reached R Return a e j f = tt
goes_reached R Throw a e j f = tt
goes_reached R LeaveRegion a e j f = tt
goes_reached R op a e j f = (f refl, tt)

-- what falls to an address, and what jumps brought there, says no less than what stands there
first_fell : (o r row : Option Description) (d : Description) → r ≡ Some d → arrived r o ≡ Some row → (x : Description) × (row ≡ Some x) × Says d x
first_fell o None row d er e = none_some er
first_fell None (Some b) row d er e = (b, sym (some_inj e), subst (λ y. Says y b) (some_inj er) (says_same b))
first_fell (Some s) (Some b) row d er e =
    let m = map_some (λ x. Some x) (meet b s) row e in (m.0, sym m.2, subst (λ y. Says y m.0) (some_inj er) (meet_first b s m.0 m.1))

first_brought : (o r row : Option Description) (d : Description) → o ≡ Some d → arrived r o ≡ Some row → (x : Description) × (row ≡ Some x) × Says d x
first_brought None r row d eo e = none_some eo
first_brought (Some b) None row d eo e = (b, sym (some_inj e), subst (λ y. Says y b) (some_inj eo) (says_same b))
first_brought (Some b) (Some r) row d eo e =
    let m = map_some (λ x. Some x) (meet r b) row e in (m.0, sym m.2, subst (λ y. Says y m.0) (some_inj eo) (meet_second r b m.0 m.1))

left_some : (code : CodeTree) (op : Op) (d : Description) (row left : Option Description) → row ≡ Some d → acted code op row ≡ Some left → (e : Description) × (changed (change code op) d ≡ Some e) × (left ≡ Some e)
left_some code op d row left er h =
    let m = map_some (λ x. Some x) (changed (change code op) d) left (sym (ap (acted code op) er) ∙ h) in (m.0, m.1, sym m.2)

-- ---- a sweep, as far as it went
-- the rows before the address `at`, where nothing was brought back anew
pub record Rows (code : CodeTree) (ops : List Op) (s h : Table Description) (at : ℕ) (r : Option Description) (flags : List Bool) (w : Table Description) : Type 0 where
  pub long : length w ≡ at
  pub flagged : (v : Table Description) → redundant ops (w ++ v) ≡ flags ++ redundant (drop at ops) v
  pub goes_on : (a : ℕ) (d : Description) → slice_get w a ≡ Some (Some d) → (ps : Sent Description) × (passes code ops a d ≡ Some ps) × AllReached (Reached w h at r) ps
  pub under : (a : ℕ) (d : Description) → a < at → slice_get s a ≡ Some (Some d) → Stands Description Says w a d
  pub most : (t : Table Description) → MeetsAll code ops t → SaysMore s t → (a : ℕ) (d : Description) → slice_get w a ≡ Some (Some d) → Stands Description Says t a d

pub record SoFar (code : CodeTree) (ops : List Op) (s0 s h : Table Description) (at : ℕ) (r : Option Description) (flags : List Bool) (changed : Bool) : Type 0 where
  pub within : at ≤ length ops
  pub size : length s ≡ length ops
  pub wide : length h ≡ length ops
  pub below : SaysMore s0 s
  pub keeps : (t : Table Description) → MeetsAll code ops t → SaysMore s0 t → SaysMore s t × SaysMore h t × RowStands t at r
  pub still : changed ≡ false → (s ≡ s0) × (w : Table Description) × Rows code ops s0 h at r flags w

pub so_begins : (code : CodeTree) (ops : List Op) (s h : Table Description) (flags : List Bool) → length s ≡ length ops → h ≡ blank Description (length ops) → flags ≡ [] → SoFar code ops s s h 0 None flags false
so_begins code ops s h flags size eh empty =
    record {
      within = omega arith;
      size = size;
      wide = ap length eh ∙ blank_long Description (length ops);
      below = more_same s;
      keeps = λ t m f. (f, subst (λ x. SaysMore x t) (sym eh) (record { size = blank_long Description (length ops) ∙ sym size ∙ f.size; says = λ a x e. blank_none (length ops) a x e }), tt);
      still = λ e. (
        refl,
        [],
        record {
          long = refl;
          flagged = λ v. sym (ap (λ l. l ++ redundant ops v) empty);
          goes_on = λ a d e. none_some e;
          under = λ a d lt e. absurd (omega (arith, lt));
          most = λ t m f a d e. none_some e;
        },
      );
    }

-- one more address, where `oh` was brought in this sweep and `ok` is kept
module _ (code : CodeTree) (ops : List Op) (s0 s s' h h1 h' : Table Description) (at : ℕ) (op p : Op) (oh ok r first row left r' : Option Description) (b anew changed changed' : Bool) (flags flags' : List Bool)
    (so : SoFar code ops s0 s h at r flags changed) (lt : at < length ops) (eop : op ≡ get_or ops at p)
    (eh : slice_get h at ≡ Some oh) (eh1 : h1 ≡ slice_set h at None) (arr1 : arrived r oh ≡ Some first)
    (ek : slice_get s at ≡ Some ok) (arr2 : arrived first ok ≡ Some row)
    (eb : b ≡ is_redundant op row) (ef : flags' ≡ flags ++ b ∷ []) (act : acted code op row ≡ Some left)
    (moved : (p : Passing) → Brought p at left (jumps op) s h1 s' h') (len : length s' ≡ length s) (wide : length h' ≡ length h1) (same : anew ≡ false → s' ≡ s)
    (either : changed' ≡ false → (changed ≡ false) × (anew ≡ false)) (er : r' ≡ onward op left) where
  op_at : slice_get ops at ≡ Some op
  op_at = slice_get-get_or ops at p lt ∙ ap (λ x. Some x) (sym eop)

  jump : Jumped at left (jumps op) s h1 s' h'
  jump = jumped (passes code ops) at left (jumps op) s h1 s' h' (moved (passes code ops))

  -- what lies ahead, but for what was taken
  rest_same : (c : ℕ) → (c ≡ at → ⊥) → slice_get h1 c ≡ slice_get h c
  rest_same c ne = ap (λ x. slice_get x c) eh1 ∙ get_set_other h at c None ne

  rest_long : length h1 ≡ length h
  rest_long = ap length eh1 ∙ length-set h at None

  rest_more : (t : Table Description) → SaysMore h t → SaysMore h1 t
  rest_more t f =
      record {
        size = rest_long ∙ f.size;
        says = λ a d e. ⊎_elim
            (λ (is : a ≡ at). none_some (some_inj (sym (get_set_same h at None oh eh) ∙ ap (λ x. slice_get x at) (sym eh1) ∙ ap (slice_get h1) (sym is) ∙ e)))
            (λ other. f.says a d (sym (rest_same a other) ∙ e))
            (cases_eq a at);
      }

  rows : (t : Table Description) → MeetsAll code ops t → SaysMore s0 t → RowStands t at row
  rows t m f =
      let old = so.keeps t m f in
      row_sound s t at ok first row old.0 ek (row_sound h t at oh r first old.1 eh old.2 arr1) arr2

  sounds : (t : Table Description) → MeetsAll code ops t → SaysMore s0 t → AllStand Description Says t (away op left) × RowStands t (at + 1) (onward op left)
  sounds t m f = left_sound code ops t at op row left m op_at (rows t m f) act

  keeps_on : (t : Table Description) → MeetsAll code ops t → SaysMore s0 t → SaysMore s' t × SaysMore h' t × RowStands t (at + 1) r'
  keeps_on t m f =
      let old = so.keeps t m f in
      let new = sounds t m f in
      let both = jump.keeps t old.0 (rest_more t old.1) (away_stands t op left new.0) in
      (both.0, both.1, subst (RowStands t (at + 1)) (sym er) new.1)

  -- what fell or was brought to the address stands there
  fell_here : (d : Description) → r ≡ Some d → (x : Description) × (row ≡ Some x) × Says d x
  fell_here d e =
      let one = first_fell oh r first d e arr1 in
      let two = first_fell ok first row one.0 one.1 arr2 in
      (two.0, two.1, says_trans d one.0 two.0 one.2 two.2)

  brought_here : (d : Description) → oh ≡ Some d → (x : Description) × (row ≡ Some x) × Says d x
  brought_here d e =
      let one = first_brought oh r first d e arr1 in
      let two = first_fell ok first row one.0 one.1 arr2 in
      (two.0, two.1, says_trans d one.0 two.0 one.2 two.2)

  module _ (w : Table Description) (old : Rows code ops s0 h at r flags w) (quiet : s ≡ s0) (still : s' ≡ s) where
    abbrev next : Table Description
    next = w ++ row ∷ []

    last_at : slice_get next at ≡ Some row
    last_at = subst (λ n. slice_get next n ≡ Some row) old.long (at_last w row)

    stands_here : (e d : Description) → ((x : Description) × (row ≡ Some x) × Says d x) → Says e d → Stands Description Says next at e
    stands_here e d x says = (x.0, last_at ∙ ap (λ y. Some y) x.1, says_trans e d x.0 says x.2)

    kept_on : (a : ℕ) (e : Description) → Stands Description Says w a e → Stands Description Says next a e
    kept_on a e x = (x.0, before_last w row a (Some x.0) x.1, x.2)

    still_brought : (c : ℕ) (e : Description) → at ≤ c → Stands Description Says h c e → Reached next h' (at + 1) r' c e
    still_brought c e le x =
        ⊎_elim
        (λ (is : c ≡ at). inl (subst (λ n. Stands Description Says next n e) (sym is) (stands_here e x.0 (brought_here x.0 (some_inj (sym eh ∙ ap (slice_get h) (sym is) ∙ x.1))) x.2)))
        (λ other. inr (inl (further other, stands_below h1 h' c e jump.ahead (x.0, rest_same c other ∙ x.1, x.2))))
        (cases_eq c at)
      where
        further : (c ≡ at → ⊥) → at + 1 ≤ c
        further other = ⊎_elim (λ less. omega (arith, less)) (λ more. absurd (other (omega (arith, le, more)))) (cases_lt at c)

    still_falls : (c : ℕ) (e : Description) → c ≡ at → (o : Option Description) → r ≡ o → Falls o e → Reached next h' (at + 1) r' c e
    still_falls c e is None eo x = absurd x
    still_falls c e is (Some d) eo x = inl (subst (λ n. Stands Description Says next n e) (sym is) (stands_here e d (fell_here d eo) x))

    reach_on : (c : ℕ) (e : Description) → Reached w h at r c e → Reached next h' (at + 1) r' c e
    reach_on c e (inl x) = inl (kept_on c e x)
    reach_on c e (inr (inl x)) = still_brought c e x.0 x.1
    reach_on c e (inr (inr x)) = still_falls c e x.0 r refl x.1

    under_on : (a : ℕ) (d : Description) → a < at + 1 → slice_get s0 a ≡ Some (Some d) → Stands Description Says next a d
    under_on a d lt' e =
        ⊎_elim
        (λ (is : a ≡ at). subst (λ n. Stands Description Says next n d) (sym is) (kept_here (some_inj (sym ek ∙ ap (λ x. slice_get x at) quiet ∙ ap (slice_get s0) (sym is) ∙ e))))
        (λ other. kept_on a d (old.under a d (less other) e))
        (cases_eq a at)
      where
        less : (a ≡ at → ⊥) → a < at
        less other = ⊎_elim (λ lt. lt) (λ ge. absurd (other (omega (arith, lt', ge)))) (cases_lt a at)

        kept_here : ok ≡ Some d → Stands Description Says next at d
        kept_here is = let x = first_brought ok first row d is arr2 in (x.0, last_at ∙ ap (λ y. Some y) x.1, x.2)

    -- what is left at the address itself
    lands_on : (e : Description) → left ≡ Some e → (c : ℕ) → jumps op ≡ Some c → Reached next h' (at + 1) r' c e
    lands_on e el c ec = ⊎_elim back (λ x. let le = x.0 in inr (inl (omega (arith, le), x.1))) (jump.lands e el c ec)
      where
        back : (c ≤ at) × Stands Description Says s' c e → Reached next h' (at + 1) r' c e
        back x =
            let le = x.0 in
            let there = under_on c x.1.0 (omega (arith, le)) (ap (λ t. slice_get t c) (sym (still ∙ quiet)) ∙ x.1.1) in
            inl (there.0, there.1, says_trans e x.1.0 there.0 x.1.2 there.2)

    falls_on : (e : Description) → left ≡ Some e → falls op ≡ true → Reached next h' (at + 1) r' (at + 1) e
    falls_on e el ef =
        let is : r' ≡ Some e = er ∙ ap (onward op) el ∙ ap (λ (x : Bool). if x then Some e else None) ef in
        inr (inr (refl, subst (λ o. Falls o e) (sym is) (says_same e)))

    goes_here : (d : Description) → row ≡ Some d → (ps : Sent Description) × (passes code ops at d ≡ Some ps) × AllReached (Reached next h' (at + 1) r') ps
    goes_here d is =
        let l = left_some code op d row left is act in
        (sent (goes at op) l.0, passes_left code ops at op d l.0 op_at l.1, goes_reached (Reached next h' (at + 1) r') op at l.0 (lands_on l.0 l.2) (falls_on l.0 l.2))

    goes_before : (a : ℕ) (d : Description) → slice_get w a ≡ Some (Some d) → (ps : Sent Description) × (passes code ops a d ≡ Some ps) × AllReached (Reached next h' (at + 1) r') ps
    goes_before a d e = let x = old.goes_on a d e in (x.0, x.1, all_reached (Reached w h at r) (Reached next h' (at + 1) r') x.0 reach_on x.2)

    goes_all : (a : ℕ) (d : Description) → slice_get next a ≡ Some (Some d) → (ps : Sent Description) × (passes code ops a d ≡ Some ps) × AllReached (Reached next h' (at + 1) r') ps
    goes_all a d e =
        ⊎_elim (goes_before a d)
        (λ (new : (a ≡ length w) × (row ≡ Some d)). subst (λ n. (ps : Sent Description) × (passes code ops n d ≡ Some ps) × AllReached (Reached next h' (at + 1) r') ps) (sym (new.0 ∙ old.long)) (goes_here d new.1))
        (last_or w row a (Some d) e)

    most_on : (t : Table Description) → MeetsAll code ops t → SaysMore s0 t → (a : ℕ) (d : Description) → slice_get next a ≡ Some (Some d) → Stands Description Says t a d
    most_on t m f a d e =
        ⊎_elim (old.most t m f a d)
        (λ (new : (a ≡ length w) × (row ≡ Some d)). subst (λ n. Stands Description Says t n d) (sym (new.0 ∙ old.long)) (subst (RowStands t at) new.1 (rows t m f)))
        (last_or w row a (Some d) e)

    flagged_on : (v : Table Description) → redundant ops (next ++ v) ≡ flags' ++ redundant (drop (at + 1) ops) v
    flagged_on v =
        ap (redundant ops) (append_assoc w (row ∷ []) v)
        ∙ old.flagged (row ∷ v)
        ∙ ap (λ x. flags ++ redundant x (row ∷ v)) (opened ops at op p lt eop)
        ∙ sym (append_assoc flags (is_redundant op row ∷ []) (redundant (drop (at + 1) ops) v))
        ∙ ap (λ x. (flags ++ x ∷ []) ++ redundant (drop (at + 1) ops) v) (sym eb)
        ∙ ap (λ x. x ++ redundant (drop (at + 1) ops) v) (sym ef)

    rows_on : Rows code ops s0 h' (at + 1) r' flags' next
    rows_on = record { long = length-append w (row ∷ []) ∙ ap (λ n. n + 1) old.long; flagged = flagged_on; goes_on = goes_all; under = under_on; most = most_on }

  pub so_on : SoFar code ops s0 s' h' (at + 1) r' flags' changed'
  so_on =
      record {
        within = omega (arith, lt);
        size = len ∙ so.size;
        wide = wide ∙ rest_long ∙ so.wide;
        below = more_trans s0 s s' so.below jump.kept;
        keeps = keeps_on;
        still = λ e. let quiet = either e in let old = so.still quiet.0 in let is = same quiet.1 in (is ∙ old.0, next old.1 old.2 old.0 is, rows_on old.1 old.2 old.0 is);
      }

-- at the end
pub so_lowers : (code : CodeTree) (ops : List Op) (s0 s h : Table Description) (at : ℕ) (r : Option Description) (flags : List Bool) (changed : Bool) → SoFar code ops s0 s h at r flags changed → Lowers code ops s0 s
so_lowers code ops s0 s h at r flags changed so = record { below = so.below; keeps = λ t m f. (so.keeps t m f).0 }

module _ (code : CodeTree) (ops : List Op) (s h : Table Description) (at : ℕ) (flags : List Bool) (w : Table Description) (rows : Rows code ops s h at None flags w) (size : length s ≡ length ops) (wide : length h ≡ length ops) (end : at ≡ length ops) where
  ended : (b : ℕ) (e : Description) → Reached w h at None b e → Stands Description Says w b e
  ended b e (inl x) = x
  ended b e (inr (inl x)) = let lt = slice_get_within h b (Some x.1.0) x.1.1 in let le = x.0 in absurd (omega (arith, lt, le, wide, end))
  ended b e (inr (inr x)) = absurd x.1

  rests : Rests code ops s w
  rests =
      record {
        below = record { size = size ∙ sym end ∙ sym rows.long; says = λ a d e. let lt = slice_get_within s a (Some d) e in rows.under a d (omega (arith, lt, size, end)) e };
        meets = λ a d e. let x = rows.goes_on a d e in (x.0, x.1, all_stand w x.0 (all_reached (Reached w h at None) (λ b e. Stands Description Says w b e) x.0 ended x.2));
        most = λ t m f. record { size = rows.long ∙ end ∙ sym size ∙ f.size; says = rows.most t m f };
      }

  flags_are : flags ≡ redundant ops w
  flags_are =
      let le : length ops ≤ at = omega (arith, end) in
      sym (ap (redundant ops) (sym (append-nil w)) ∙ rows.flagged [] ∙ ap (λ x. flags ++ redundant x []) (drop_all at ops le) ∙ append-nil flags)

pub so_ends : (code : CodeTree) (ops : List Op) (s0 s h : Table Description) (at : ℕ) (r : Option Description) (flags : List Bool) (changed : Bool) → SoFar code ops s0 s h at r flags changed → length ops ≤ at → r ≡ None → changed ≡ false → Ends code ops s flags
so_ends code ops s0 s h at r flags changed so le none quiet =
    let old = so.still quiet in
    let rows : Rows code ops s h at None flags old.1 = subst (λ x. Rows code ops x h at None flags old.1) (sym old.0) (subst (λ x. Rows code ops s0 h at x flags old.1) none old.2) in
    let within = so.within in
    let end : at ≡ length ops = omega (arith, le, within) in
    (old.1, rests code ops s h at flags old.1 rows so.size so.wide end, flags_are code ops s h at flags old.1 rows so.size so.wide end)

-- ---- the same barriers are redundant by two tables that say as much
both_ways : (a b : Bool) → (IsTrue a → IsTrue b) → (IsTrue b → IsTrue a) → a ≡ b
both_ways true b f g = sym (f refl)
both_ways false true f g = g refl
both_ways false false f g = refl

same_row : (op : Op) (o p : Option Description) → ((d : Description) → o ≡ Some d → (x : Description) × (p ≡ Some x) × Says d x) → ((d : Description) → p ≡ Some d → (x : Description) × (o ≡ Some x) × Says d x) → is_redundant op o ≡ is_redundant op p
same_row op None None f g = refl
same_row op None (Some x) f g = none_some (g x refl).1
same_row op (Some d) None f g = none_some (f d refl).1
same_row op (Some d) (Some x) f g =
    let one = f d refl in
    let two = g x refl in
    both_ways (tests_again op d) (tests_again op x)
    (again_more op x d (subst (λ y. Says x y) (sym (some_inj two.1)) two.2))
    (again_more op d x (subst (λ y. Says d y) (sym (some_inj one.1)) one.2))

row_first : (o : Option Description) (os ps : Table Description) (p : Option Description) → SaysMore (o ∷ os) (p ∷ ps) → (d : Description) → o ≡ Some d → (x : Description) × (p ≡ Some x) × Says d x
row_first o os ps p f d e = let x = f.says 0 d (ap (λ y. Some y) e) in (x.0, some_inj x.1, x.2)

rows_later : (o p : Option Description) (os ps : Table Description) → SaysMore (o ∷ os) (p ∷ ps) → SaysMore os ps
rows_later o p os ps f = record { size = (let e = f.size in omega (arith, e)); says = λ a d e. f.says (suc a) d e }

same_flags : (ops : List Op) (w t : Table Description) → SaysMore w t → SaysMore t w → redundant ops w ≡ redundant ops t
same_flags (op ∷ ops) [] (p ∷ t) f g = let e = f.size in absurd (omega (arith, e))
same_flags (op ∷ ops) (o ∷ w) [] f g = let e = f.size in absurd (omega (arith, e))
same_flags (op ∷ ops) (o ∷ w) (p ∷ t) f g =
    ap₂ (λ b r. b ∷ r) (same_row op o p (row_first o w t p f) (row_first p t w o g)) (same_flags ops w t (rows_later o p w t f) (rows_later p o t w g))
same_flags ops w t f g = refl

-- ---- a unit
pub record Swung (code : CodeTree) (u : CodeUnit) (s : Table Description) : Type 0 where
  pub size : length s ≡ length u.ops
  pub started : AllStand Description Says s (starts u)
  pub sound : (t : Table Description) → Describes code u t → SaysMore s t

pub first_swung : (code : CodeTree) (u : CodeUnit) (s : Table Description) → ((p : Passing) → first Description meet p (length u.ops) (starts u) ≡ Holds s) → length s ≡ length u.ops → Swung code u s
first_swung code u s h size =
    let all = all_came (passes code u.ops) (starts u) (blank Description (length u.ops)) s (h (passes code u.ops)) in
    record {
      size = size;
      started = all.stand;
      sound = λ t d. all.keeps t (record { size = blank_long Description (length u.ops) ∙ sym d.size; says = λ a x e. blank_none (length u.ops) a x e }) d.started;
    }

pub swung_on : (code : CodeTree) (u : CodeUnit) (ops : List Op) (s s' : Table Description) → ops ≡ u.ops → Swung code u s → Lowers code ops s s' → length s' ≡ length ops → Swung code u s'
swung_on code u ops s s' eo old low size =
    record {
      size = size ∙ ap length eo;
      started = all_below s s' (starts u) low.below old.started;
      sound = λ t d. low.keeps t (subst (λ x. MeetsAll code x t) (sym eo) d.settled) (old.sound t d);
    }

flags_by : (code : CodeTree) (u : CodeUnit) (w : Table Description) (o : Found Description) → OnFound ⊥ o (λ t. SaysMore t w) → OnFound (Unit {0}) o (λ t. SaysMore w t) → redundant u.ops w ≡ redundant_by u.ops o
flags_by code u w (Holds t) f g = same_flags u.ops w t g f
flags_by code u w (Broke a) f g = absurd f

above_found : (code : CodeTree) (u : CodeUnit) (w : Table Description) (o : Found Description) → OnFound (Unit {0}) o (λ t. Describes code u t) → ((t : Table Description) → Describes code u t → SaysMore w t) → OnFound (Unit {0}) o (λ t. SaysMore w t)
above_found code u w (Holds t) d f = f t d
above_found code u w (Broke a) d f = tt

describes : (code : CodeTree) (u : CodeUnit) (s w : Table Description) → Swung code u s → Rests code u.ops s w → Describes code u w
describes code u s w now rest = record { size = sym rest.below.size ∙ now.size; started = all_below s w (starts u) rest.below now.started; settled = rest.meets }

pub swung_ends : (code : CodeTree) (u : CodeUnit) (ops : List Op) (s s' : Table Description) (flags : List Bool) → ops ≡ u.ops → Swung code u s → Lowers code ops s s' → length s' ≡ length ops → Ends code ops s' flags → flags ≡ redundant_in code u
swung_ends code u ops s s' flags eo old low size ends =
    let now = swung_on code u ops s s' eo old low size in
    let w = ends.0 in
    let rest : Rests code u.ops s' w = subst (λ x. Rests code x s' w) eo ends.1 in
    ends.2
    ∙ ap (λ x. redundant x w) eo
    ∙ flags_by code u w (descriptions code u) (says_most code u w (describes code u s' w now rest))
    (above_found code u w (descriptions code u) (meets_rules code u) (λ t d. rest.most t d.settled (now.sound t d)))
