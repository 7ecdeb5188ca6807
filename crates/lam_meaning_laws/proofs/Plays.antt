-- A tree that is played with answers, beside what nested code does.
use Rattle.std.proofs.Common.{◌≡◌, ◌≢◌, ℕ, List, [], ◌∷◌, ◌++◌, Bool, true, false, refl, sym, ap, ◌∙◌, subst, append_assoc, length}
use Rattle.std.proofs.lemmas.List.{append-nil}
use Rattle.std.specs.Prelude.{if◌then◌else◌, map}
use Rattle.lam_value.specs.declared.names.Name.{Name}
use Rattle.lam_value.specs.declared.values.Value.{Value}
use Rattle.lam_asks.specs.declared.answer.Answer.{Answer}
use Rattle.lam_asks.specs.declared.ask.Ask.{Ask}
use Rattle.lam_asks.specs.Suits.{fits}
use Rattle.lam_meaning_typed.specs.Trees.{Own, Asked, End, goes, raises, leaves, Tree, ends, spent, broken, asks, on_end, next, and_then}
use Rattle.lam_meaning_typed.specs.Plays.{How, waits, is_spent, is_broken, asks_of, how_of, AllFit}
use Rattle.lam_meaning_laws.specs.Gathers.{Along, Out, gone, raised, returned, stops, and_on, final_of}

-- what stays along code: the number of locals, and the monitors that its context has where it returns
pub record Keep : Type 0 where
  pub size : ℕ
  pub base : List Name

-- the monitors that its context has where it goes on, by its locals
abbrev pub Held : Type 0
Held = List Value → List Name

abbrev pub along : Own → List Answer → List Ask → Along
along o xs made = record { own = o; answers = xs; asks = made }

abbrev pub stands : {A : Type 0} → Keep → Held → End A → List Answer → List Ask → Out A
stands kp H (goes a n o) xs made = gone a n (H o.locals) (along o xs made)
stands kp H (raises f n o) xs made = raised f n (along o xs made)
stands kp H (leaves v n o) xs made = returned v n kp.base (along o xs made)

-- an answer that does not suit breaks
abbrev pub tested : {A : Type 0} → Bool → Out A → List Ask → Out A
tested true p made = p
tested false p made = stops is_broken made

-- with the answers to come and the asks so far
abbrev pub played : {A : Type 0} → Keep → Held → Tree A → List Answer → List Ask → Out A
played kp H (ends e) xs made = stands kp H e xs made
played kp H spent xs made = stops is_spent made
played kp H broken xs made = stops is_broken made
played kp H (asks q k) [] made = stops waits (made ++ q.ask ∷ [])
played kp H (asks q k) (x ∷ xs) made = tested (fits q.want x) (played kp H (k x) xs (made ++ q.ask ∷ [])) made

abbrev pub NotBroken : {A : Type 0} → Out A → Type 0
NotBroken (stops is_broken made) = ⊥
NotBroken _ = Unit {0}

abbrev pub told : {A B : Type 0} → (A → B) → Out A → Out B
told h (gone a n held st) = gone (h a) n held st
told h (raised f n st) = raised f n st
told h (returned v n held st) = returned v n held st
told h (stops how made) = stops how made

-- there are as many locals still
abbrev pub Sized : {A : Type 0} → ℕ → Out A → Type 0
Sized size (gone a n held st) = length st.own.locals ≡ size
Sized size (raised f n st) = length st.own.locals ≡ size
Sized size (returned v n held st) = length st.own.locals ≡ size
Sized size (stops how made) = Unit {0}

-- the tree, played, gives what stands beside it, under h, unless it is broken
pub record Matches {A B : Type 0} (kp : Keep) (H : Held) (h : A → B) (t : Tree A) (xs : List Answer) (made : List Ask) (r : Out B) : Type 0 where
  pub by : NotBroken (played kp H t xs made) → told h (played kp H t xs made) ≡ r
  pub keeps : Sized kp.size (played kp H t xs made)

abbrev pub MatchesAt : {A B : Type 0} → Keep → Held → (A → B) → Tree A → Along → Out B → Type 0
MatchesAt kp H h t st r = Matches kp H h t st.answers st.asks r

-- ---- what holds of each value that a tree ends with

abbrev pub EndAll : {A : Type 0} → (A → Type 0) → End A → Type 0
EndAll P (goes a n o) = P a
EndAll P (raises f n o) = Unit {0}
EndAll P (leaves v n o) = Unit {0}

abbrev pub All : {A : Type 0} → (A → Type 0) → Tree A → Type 0
All P (ends e) = EndAll P e
All P spent = Unit {0}
All P broken = Unit {0}
All P (asks q k) = (x : Answer) → All P (k x)

pub all_any : {A : Type 0} (t : Tree A) → All (λ a. Unit {0}) t
all_any (ends (goes a n o)) = tt
all_any (asks q k) = λ x. all_any (k x)
all_any t = tt

pub all_then : {A B : Type 0} (P : A → Type 0) (Q : B → Type 0) (t : Tree A) (f : A → ℕ → Own → Tree B) → All P t → ((a : A) (n : ℕ) (o : Own) → P a → All Q (f a n o)) → All Q (and_then t f)
unfolding on_end
all_then P Q (ends (goes a n o)) f h k = k a n o h
all_then P Q (asks q j) f h k = λ x. all_then P Q (j x) f (h x) k
all_then P Q t f h k = tt

-- ---- the one induction over trees

abbrev pub EndSized : {A : Type 0} → ℕ → End A → Type 0
EndSized size (goes a n o) = length o.locals ≡ size
EndSized size (raises f n o) = length o.locals ≡ size
EndSized size (leaves v n o) = length o.locals ≡ size

-- two plays with the same answer
split : {A B C D : Type 0} (b : Bool) (size size2 : ℕ) (h : A → B) (k : C → D) (p : Out A) (q : Out C) (made : List Ask) (r : Out B) (r2 : Out D) → (NotBroken (tested b p made) → told h (tested b p made) ≡ r) → Sized size (tested b p made) → ((NotBroken p → told h p ≡ r) → Sized size p → (NotBroken q → told k q ≡ r2) × Sized size2 q) → (NotBroken (tested b q made) → told k (tested b q made) ≡ r2) × Sized size2 (tested b q made)
split true size size2 h k p q made r r2 by keeps f = f by keeps
split false size size2 h k p q made r r2 by keeps f = (λ ok. absurd ok, tt)

module _ {A B C D : Type 0} (kp kp2 : Keep) (H H2 : Held) (h : A → B) (k : C → D) where
  pub ends_where : (P : A → Type 0) (t : Tree A) (xs : List Answer) (made : List Ask) (r : Out B) (F : End A → Tree C) (G : Out B → Out D) → All P t → ((how : How) (made : List Ask) → stops how made ≡ G (stops how made)) → ((e : End A) → EndAll P e → EndSized kp.size e → (xs : List Answer) (made : List Ask) → Matches kp2 H2 k (F e) xs made (G (told h (stands kp H e xs made)))) → Matches kp H h t xs made r → Matches kp2 H2 k (on_end t F) xs made (G r)
  unfolding on_end
  ends_where P (ends (goes a n o)) xs made r F G all stop f m = subst (λ r. Matches kp2 H2 k (F (goes a n o)) xs made (G r)) (m.by tt) (f (goes a n o) all m.keeps xs made)
  ends_where P (ends (raises x n o)) xs made r F G all stop f m = subst (λ r. Matches kp2 H2 k (F (raises x n o)) xs made (G r)) (m.by tt) (f (raises x n o) all m.keeps xs made)
  ends_where P (ends (leaves v n o)) xs made r F G all stop f m = subst (λ r. Matches kp2 H2 k (F (leaves v n o)) xs made (G r)) (m.by tt) (f (leaves v n o) all m.keeps xs made)
  ends_where P spent xs made r F G all stop f m = record { by = λ ok. stop is_spent made ∙ ap G (m.by tt); keeps = tt }
  ends_where P broken xs made r F G all stop f m = record { by = λ ok. absurd ok; keeps = tt }
  ends_where P (asks q j) [] made r F G all stop f m = record { by = λ ok. stop waits (made ++ q.ask ∷ []) ∙ ap G (m.by tt); keeps = tt }
  ends_where P (asks q j) (x ∷ xs) made r F G all stop f m =
      let s = split (fits q.want x) kp.size kp2.size h k (played kp H (j x) xs (made ++ q.ask ∷ [])) (played kp2 H2 (on_end (j x) F) xs (made ++ q.ask ∷ [])) made r (G r) m.by m.keeps
      (λ by keeps. let i = ends_where P (j x) xs (made ++ q.ask ∷ []) r F G (all x) stop f (record { by = by; keeps = keeps }) in (i.by, i.keeps)) in
      record { by = s.0; keeps = s.1 }

  pub end_on : (t : Tree A) (xs : List Answer) (made : List Ask) (r : Out B) (F : End A → Tree C) (G : Out B → Out D) → ((how : How) (made : List Ask) → stops how made ≡ G (stops how made)) → ((e : End A) → EndSized kp.size e → (xs : List Answer) (made : List Ask) → Matches kp2 H2 k (F e) xs made (G (told h (stands kp H e xs made)))) → Matches kp H h t xs made r → Matches kp2 H2 k (on_end t F) xs made (G r)
  end_on t xs made r F G stop f m = ends_where (λ a. Unit {0}) t xs made r F G (all_any t) stop (λ e all sized xs made. f e sized xs made) m

module _ {A B C D : Type 0} (kp : Keep) (H H2 : Held) (h : A → B) (k : C → D) where
  -- one piece after another
  pub binds_where : (P : A → Type 0) (t : Tree A) (st : Along) (r : Out B) (f : A → ℕ → Own → Tree C) (g : B → ℕ → List Name → Along → Out D) → All P t → MatchesAt kp H h t st r → ((a : A) → P a → (n : ℕ) (st : Along) → length st.own.locals ≡ kp.size → MatchesAt kp H2 k (f a n st.own) st (g (h a) n (H st.own.locals) st)) → MatchesAt kp H2 k (and_then t f) st (and_on r g)
  binds_where P t st r f g all m mf = ends_where kp kp H H2 h k P t st.answers st.asks r (next f) (λ r. and_on r g) all (λ how made. refl) go m
    where
      go : (e : End A) → EndAll P e → EndSized kp.size e → (xs : List Answer) (made : List Ask) → Matches kp H2 k (next f e) xs made (and_on (told h (stands kp H e xs made)) g)
      go (goes a n o) all sized xs made = mf a all n (along o xs made) sized
      go (raises x n o) all sized xs made = record { by = λ ok. refl; keeps = sized }
      go (leaves v n o) all sized xs made = record { by = λ ok. refl; keeps = sized }

  pub binds : (t : Tree A) (st : Along) (r : Out B) (f : A → ℕ → Own → Tree C) (g : B → ℕ → List Name → Along → Out D) → MatchesAt kp H h t st r → ((a : A) (n : ℕ) (st : Along) → length st.own.locals ≡ kp.size → MatchesAt kp H2 k (f a n st.own) st (g (h a) n (H st.own.locals) st)) → MatchesAt kp H2 k (and_then t f) st (and_on r g)
  binds t st r f g m mf = binds_where (λ a. Unit {0}) t st r f g (all_any t) m (λ a p n st sized. mf a n st sized)

-- what the tree makes of its value, and the code does not
pub maps : {A C D : Type 0} (kp : Keep) (H : Held) (f : A → C) (k : C → D) (t : Tree A) (st : Along) (r : Out D) → MatchesAt kp H (λ a. k (f a)) t st r → MatchesAt kp H k (and_then t (λ a n o. ends (goes (f a) n o))) st r
maps {A = A} kp H f k t st r m = end_on kp kp H H (λ a. k (f a)) k t st.answers st.asks r (next (λ a n o. ends (goes (f a) n o))) (λ r. r) (λ how made. refl) go m
  where
    go : (e : End A) → EndSized kp.size e → (xs : List Answer) (made : List Ask) → Matches kp H k (next (λ a n o. ends (goes (f a) n o)) e) xs made (told (λ a. k (f a)) (stands kp H e xs made))
    go (goes a n o) sized xs made = record { by = λ ok. refl; keeps = sized }
    go (raises x n o) sized xs made = record { by = λ ok. refl; keeps = sized }
    go (leaves v n o) sized xs made = record { by = λ ok. refl; keeps = sized }

told_on : {A B : Type 0} (h : A → B) (r : Out A) → told h r ≡ and_on (told (λ a. a) r) (λ a n held st. gone (h a) n held st)
told_on h (gone a n held st) = refl
told_on h r = refl

-- what ends with a value, beside what puts it on a stack
pub onto_same : {A B : Type 0} (kp : Keep) (H : Held) (h : A → B) (t : Tree A) (st : Along) (r : Out A) → MatchesAt kp H (λ a. a) t st r → MatchesAt kp H h t st (and_on r (λ a n held st. gone (h a) n held st))
onto_same kp H h t st r m = record { by = λ ok. told_on h (played kp H t st.answers st.asks) ∙ ap (λ r. and_on r (λ a n held st. gone (h a) n held st)) (m.by ok); keeps = m.keeps }

pub and_assoc : {A B C : Type 0} (r : Out A) (f : A → ℕ → List Name → Along → Out B) (g : B → ℕ → List Name → Along → Out C) → and_on (and_on r f) g ≡ and_on r (λ a n held st. and_on (f a n held st) g)
and_assoc (gone a n held st) f g = refl
and_assoc r f g = refl

-- an answer that suits is all that matters
pub suits_same : {A B : Type 0} (kp : Keep) (H : Held) (h : A → B) (b : Bool) (t : Tree A) (xs : List Answer) (made old : List Ask) (r : Out B) → (b ≡ true → Matches kp H h t xs made r) → (NotBroken (tested b (played kp H t xs made) old) → told h (tested b (played kp H t xs made) old) ≡ r) × Sized kp.size (tested b (played kp H t xs made) old)
suits_same kp H h true t xs made old r f = ((f refl).by, (f refl).keeps)
suits_same kp H h false t xs made old r f = (λ ok. absurd ok, tt)

-- ---- what is gathered

first_fits : (b : Bool) (q : Asked) (x : Answer) (xs : List Answer) (made : List Asked) → fits q.want x ≡ b → AllFit (if b then q ∷ made else q ∷ []) (x ∷ xs) → (fits q.want x ≡ true) × AllFit made xs
first_fits true q x xs made e h = h
first_fits false q x xs made e h = absurd (let z : false ≡ true = sym e ∙ h.0 in cc)

pub how_played : {A : Type 0} (kp : Keep) (H : Held) (t : Tree A) (xs : List Answer) (made : List Ask) → AllFit (asks_of t xs) xs → (final_of (played kp H t xs made)).how ≡ how_of t xs
how_played kp H (ends (goes a n o)) xs made ok = refl
how_played kp H (asks q k) (x ∷ xs) made ok =
    let h = first_fits (fits q.want x) q x xs (asks_of (k x) xs) refl ok in
    subst (λ b. (final_of (tested b (played kp H (k x) xs (made ++ q.ask ∷ [])) made)).how ≡ (if b then how_of (k x) xs else waits)) (sym h.0) (how_played kp H (k x) xs (made ++ q.ask ∷ []) h.1)
how_played kp H t xs made ok = refl

abbrev pub plain : List Asked → List Ask
plain qs = map (λ q. q.ask) qs

pub asks_played : {A : Type 0} (kp : Keep) (H : Held) (t : Tree A) (xs : List Answer) (made : List Ask) → AllFit (asks_of t xs) xs → (final_of (played kp H t xs made)).asks ≡ made ++ plain (asks_of t xs)
asks_played kp H (ends (goes a n o)) xs made ok = sym (append-nil made)
asks_played kp H (asks q k) [] made ok = refl
asks_played kp H (asks q k) (x ∷ xs) made ok =
    let h = first_fits (fits q.want x) q x xs (asks_of (k x) xs) refl ok in
    subst (λ b. (final_of (tested b (played kp H (k x) xs (made ++ q.ask ∷ [])) made)).asks ≡ made ++ plain (if b then q ∷ asks_of (k x) xs else q ∷ [])) (sym h.0)
    (asks_played kp H (k x) xs (made ++ q.ask ∷ []) h.1 ∙ append_assoc made (q.ask ∷ []) (plain (asks_of (k x) xs)))
asks_played kp H t xs made ok = sym (append-nil made)

pub not_broken : {A : Type 0} (r : Out A) → (final_of r).how ≢ is_broken → NotBroken r
not_broken (stops is_broken made) h = absurd (h refl)
not_broken r h = tt

pub final_told : {A B : Type 0} (h : A → B) (r : Out A) → final_of (told h r) ≡ final_of r
final_told h (gone a n held st) = refl
final_told h r = refl
