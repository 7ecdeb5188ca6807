-- One turn: what an unseen one keeps, what a seen one gives, and what a release gives.
use Rattle.std.proofs.Common.{◌≡◌, ℕ, zero, suc, Bool, true, false, List, [], ◌∷◌, ◌++◌, Option, Some, None, refl, sym, ap, ◌∙◌, subst}
use Rattle.std.specs.Prelude.{cond, not, ◌&&◌, ◌||◌, slice_get, slice_set, filter}
use Rattle.std.specs.List.{AllByRecursion}
use Rattle.flow_labels.specs.declared.Label.{Label}
use Rattle.flow_labels.specs.Flow.{flows, public_label}
use Rattle.lam_value.specs.declared.names.Name.{Name}
use Rattle.lam_machine_effects.specs.Ask.{Ask}
use Rattle.lam_machine_effects.specs.Codes.{CodeTree}
use Rattle.lam_machine_effects.specs.Threads.{Inside, Bottom, Context, Thread}
use Rattle.lam_machine_effects.specs.Next.{Next, goes, asks, stuck, next_of, with_inside, started, result_after, takes}
use Rattle.lam_machine_effects.specs.Worlds.{World, thread_at, contexts_in, result_in, with_thread}
use Rattle.lam_machine_effects.specs.Serves.{Effect, nothing, adds_thread, effect_of, Made, a_region}
use Rattle.lam_machine_effects.specs.Serving.{serve}
use Rattle.lam_machine_effects.specs.Turns.{is_bottom, may_ask, waits, is_ready, Moment, goes_on, served, turn_by, turn_on, turn_in, step}
use Rattle.lam_machine_effects.specs.Views.{is_seen, shows, is_noted}
use Rattle.lam_machine_effects.specs.Valid.{IsListed, ContextLives, StandsOn, AreStacked, IsValid}
use Rattle.lam_machine_laws.proofs.FlowLemmas.{both_true}
use Rattle.lam_machine_laws.proofs.AlikeLemmas.{AlikeThreads, Alike, alike_refl, alike_sym, alike_trans, with_threads}
use Rattle.lam_machine_laws.proofs.EffectLemmas.{IsHidden, hidden_shown, shown, shown_same, shown_kept, effect_same}
use Rattle.lam_machine_laws.specs.Isolation.{IsWellLabelled, AreWellLabelled}
use Rattle.lam_machine_laws.specs.Laws.{PublicStay}
use Rattle.lam_machine_laws.proofs.ThreadLemmas.{some_inj, set_same, threads_set, filter-append, heir_inside, front, answered_front, new_contexts, front_hidden, AllSafe, safe_append, front_safe, result_kept}
use Rattle.lam_machine_laws.proofs.RowLemmas.{served_proper}
use Rattle.lam_machine_laws.proofs.SameLemmas.{serve_same}

pub only : {X : Type 0} (b : Bool) (x y : X) → cond b (Some x) None ≡ Some y → (b ≡ true) × (x ≡ y)
only true x y e = (refl, some_inj x y e)
only false x y e = absurd cc

-- ---- the acting context of a turn

pub record Acts (code : CodeTree) (w : World) (t : ℕ) (m : Moment) : Type 0 where
  pub thread : Thread
  pub top : Context
  pub rest : List Context
  pub at : thread_at w t ≡ Some thread
  pub list : thread.contexts ≡ top ∷ rest
  pub gives : turn_by code w t thread top rest (next_of code top) ≡ Some m

pub acts : (code : CodeTree) (w : World) (t : ℕ) (m : Moment) → step code w t ≡ Some m → Acts code w t m
unfolding step
acts code w t m h = find (thread_at w t) refl h
  where
    on : (th : Thread) → thread_at w t ≡ Some th → (cs : List Context) → th.contexts ≡ cs → turn_on code w t th cs ≡ Some m → Acts code w t m
    on th e [] f h = absurd cc
    on th e (c ∷ rest) f h = record { thread = th; top = c; rest = rest; at = e; list = f; gives = h }

    find : (x : Option Thread) → thread_at w t ≡ x → turn_in code w t x ≡ Some m → Acts code w t m
    find None e h = absurd cc
    find (Some th) e h = on th e th.contexts refl h

-- ---- what a turn of an unseen actor does

pub record Unseen (o : Label) (code : CodeTree) (w : World) (th : Thread) (rest : List Context) (to : Thread) (e : Effect) (m : Option Made) : Type 0 where
  pub stacks : filter (is_seen o) to.contexts ≡ filter (is_seen o) (new_contexts code m) ++ filter (is_seen o) rest
  pub result : flows public_label o ≡ true → to.result ≡ th.result
  pub effect : IsHidden o w.heap e m

pub record Turned (code : CodeTree) (w : World) (t : ℕ) (th : Thread) (c : Context) (rest : List Context) (m : Moment) : Type 0 where
  pub label : m.event.label ≡ c.label
  pub thread : m.event.thread ≡ t
  pub to : Thread
  pub effect : Effect
  pub world : m.world ≡ effect_of code t effect (with_thread w t to)
  -- what stands on the contexts below
  pub new : List Context
  pub form : to.contexts ≡ new ++ rest
  pub safe : IsWellLabelled c → AllSafe rest → AllSafe to.contexts
  pub unseen : IsWellLabelled c → (o : Label) → flows c.label o ≡ false → Unseen o code w th rest to effect m.made

private_to : Thread → Context → List Context → Inside → Thread
private_to th c rest i = record { contexts = with_inside c i ∷ rest; result = th.result }

unseen_head : (o : Label) (c : Context) (rest : List Context) → flows c.label o ≡ false → filter (is_seen o) (c ∷ rest) ≡ filter (is_seen o) rest
unseen_head o c rest hid = ap (λ b. cond b (c ∷ filter (is_seen o) rest) (filter (is_seen o) rest)) hid

went : (code : CodeTree) (w : World) (t : ℕ) (th : Thread) (c : Context) (rest : List Context) (i : Inside) → Turned code w t th c rest (goes_on w t th c rest i)
unfolding private_to
went code w t th c rest i =
    record {
      label = refl;
      thread = refl;
      to = private_to th c rest i;
      effect = nothing;
      world = refl;
      new = with_inside c i ∷ [];
      form = refl;
      safe = λ s r. ((heir_inside c i s).safe, r);
      unseen = λ s o hid. record { stacks = unseen_head o (with_inside c i) rest hid; result = λ p. refl; effect = tt };
    }

asked : (code : CodeTree) (w : World) (t : ℕ) (th : Thread) (c : Context) (rest : List Context) (a : Ask) (i : Inside) → may_ask c a ≡ true → Turned code w t th c rest (served code w t th c rest a i (serve w c a))
asked code w t th c rest a i may =
    let d = serve w c a in
    let p = served_proper w c a in
    record {
      label = refl;
      thread = refl;
      to = takes code th c rest i a d.answer;
      effect = d.effect;
      world = refl;
      new = front code c i a d.answer;
      form = answered_front code c rest i a d.answer;
      safe = λ s r. subst AllSafe (sym (answered_front code c rest i a d.answer)) (safe_append (front code c i a d.answer) rest (front_safe code c i a d.answer s p.own) r);
      unseen = λ s o hid. record {
        stacks = ap (filter (is_seen o)) (answered_front code c rest i a d.answer) ∙ filter-append (is_seen o) (front code c i a d.answer) rest ∙ ap (λ l. l ++ filter (is_seen o) rest) (front_hidden o code c i a d.answer d.made hid s p.own p.fits);
        result = λ seen. result_kept o c a th.result s may hid seen;
        effect = p.hidden s may o hid;
      };
    }

pub turned : (code : CodeTree) (w : World) (t : ℕ) (th : Thread) (c : Context) (rest : List Context) (nx : Next) (m : Moment) → turn_by code w t th c rest nx ≡ Some m → Turned code w t th c rest m
turned code w t th c rest (goes i) m h = subst (Turned code w t th c rest) (some_inj _ m h) (went code w t th c rest i)
turned code w t th c rest (asks a i) m h =
    let p = only (is_ready w t c a) (served code w t th c rest a i (serve w c a)) m h in
    subst (Turned code w t th c rest) p.1 (asked code w t th c rest a i (both_true (may_ask c a) (not (waits w t c a)) p.0).0)
turned code w t th c rest stuck m h = absurd cc

-- ---- what is public stays

effect_public : (code : CodeTree) (t : ℕ) (e : Effect) (w : World) → (effect_of code t e w).public ≡ w.public
effect_public code t nothing w = refl
effect_public code t e w = refl

pub public_stays : (code : CodeTree) → PublicStay code
public_stays code w t m h =
    let a = acts code w t m h in
    let b = turned code w t a.thread a.top a.rest _ m a.gives in
    ap (λ (v : World). v.public) b.world ∙ effect_public code t b.effect (with_thread w t b.to)

-- ---- worlds stay well labelled

-- the contexts of an acting thread
pub top_safe : (w : World) (t : ℕ) (th : Thread) (c : Context) (rest : List Context) → AreWellLabelled w → thread_at w t ≡ Some th → th.contexts ≡ c ∷ rest → IsWellLabelled c × AllSafe rest
top_safe w t th c rest s e f = subst AllSafe f (subst (λ x. AllSafe (contexts_in x)) e (s.contexts t))

set_safe : (t : ℕ) (xs : List Thread) (a : Thread) → ((j : ℕ) → AllSafe (contexts_in (slice_get xs j))) → AllSafe a.contexts → (j : ℕ) → AllSafe (contexts_in (slice_get (slice_set xs t a) j))
set_safe t [] a all here j = all j
set_safe zero (x ∷ xs) a all here zero = here
set_safe zero (x ∷ xs) a all here (suc j) = all (suc j)
set_safe (suc t) (x ∷ xs) a all here zero = all zero
set_safe (suc t) (x ∷ xs) a all here (suc j) = set_safe t xs a (λ k. all (suc k)) here j

grown_safe : (xs : List Thread) (a : Thread) → ((j : ℕ) → AllSafe (contexts_in (slice_get xs j))) → AllSafe a.contexts → (j : ℕ) → AllSafe (contexts_in (slice_get (xs ++ a ∷ []) j))
grown_safe [] a all here zero = here
grown_safe [] a all here (suc j) = tt
grown_safe (x ∷ xs) a all here zero = all zero
grown_safe (x ∷ xs) a all here (suc j) = grown_safe xs a (λ k. all (suc k)) here j

effect_safe : (code : CodeTree) (t : ℕ) (e : Effect) (w : World) → AreWellLabelled w → AreWellLabelled (effect_of code t e w)
effect_safe code t (adds_thread unit args caps) w s =
    record { contexts = grown_safe w.threads (started code unit args caps) s.contexts (record { bottom = λ e. refl; held = tt }, tt) }
effect_safe code t e w s = record { contexts = s.contexts }

pub step_safe : (code : CodeTree) (w : World) (t : ℕ) (m : Moment) → AreWellLabelled w → step code w t ≡ Some m → AreWellLabelled m.world
step_safe code w t m s h =
    let a = acts code w t m h in
    let b = turned code w t a.thread a.top a.rest _ m a.gives in
    let p = top_safe w t a.thread a.top a.rest s a.at a.list in
    subst AreWellLabelled (sym b.world) (effect_safe code t b.effect _ (record { contexts = set_safe t w.threads b.to s.contexts (b.safe p.0 p.1) }))

-- valid worlds are well labelled
bottom_public : (c : Context) (cs : List Context) (Below : Type 0) → StandsOn c cs Below → c.phase ≡ Bottom → c.label ≡ public_label
bottom_public c [] Below h e = h.label
bottom_public c (d ∷ ds) Below h e = let same : is_bottom c.phase ≡ true = ap is_bottom e in absurd cc

below : (c : Context) (cs : List Context) → StandsOn c cs (AreStacked cs) → AreStacked cs
below c [] h = tt
below c (d ∷ ds) h = h.1

listed_safe : (w : World) (t : ℕ) (c : Context) (ns : List Name) → AllByRecursion (IsListed w t c) ns → AllByRecursion (λ (n : Name). n.own ≡ c.label) ns
listed_safe w t c [] h = tt
listed_safe w t c (n ∷ ns) h = ((h.0).own, listed_safe w t c ns h.1)

stack_safe : (w : World) (t : ℕ) (cs : List Context) → AllByRecursion (ContextLives w t) cs → AreStacked cs → AllSafe cs
stack_safe w t [] h s = tt
stack_safe w t (c ∷ cs) h s =
    (record { bottom = bottom_public c cs (AreStacked cs) s; held = listed_safe w t c c.held (h.0).held }, stack_safe w t cs h.1 (below c cs s))

pub valid_safe : (w : World) → IsValid w → AreWellLabelled w
valid_safe w v = record { contexts = λ t. go t (thread_at w t) refl }
  where
    go : (t : ℕ) (x : Option Thread) → thread_at w t ≡ x → AllSafe (contexts_in x)
    go t None e = tt
    go t (Some th) e = let h = v.threads t th e in stack_safe w t th.contexts h.contexts h.stacked

-- ---- unseen turns

pub unnoted : (a b : Bool) → (a || (not a && b)) ≡ false → (a ≡ false) × (b ≡ false)
unnoted true b e = absurd cc
unnoted false b e = (refl, e)

new_unseen : (o : Label) (code : CodeTree) (m : Option Made) → shows o m ≡ false → filter (is_seen o) (new_contexts code m) ≡ []
new_unseen o code (Some (a_region l k d r xs)) h = ap (λ b. cond b (new_contexts code (Some (a_region l k d r xs))) []) h
new_unseen o code m h = refl

-- one thread is another one on one side
one_thread : (o : Label) (w : World) (t : ℕ) (th to : Thread) → thread_at w t ≡ Some th → filter (is_seen o) th.contexts ≡ filter (is_seen o) to.contexts → (flows public_label o ≡ true → th.result ≡ to.result) → Alike o w (with_thread w t to)
one_thread o w t th to e stacks results =
    with_threads o w w w.threads (slice_set w.threads t to) (alike_refl o w)
    (subst (λ xs. AlikeThreads o xs (slice_set w.threads t to)) (set_same t w.threads th e)
    (threads_set o t w.threads w.threads th th th to (alike_refl o w).threads e e stacks results))

-- an unseen turn that is no release past the observer keeps what is seen
pub unseen_turn : (o : Label) (code : CodeTree) (w : World) (t : ℕ) (m : Moment) → AreWellLabelled w → step code w t ≡ Some m → is_noted o m ≡ false → Alike o w m.world
unseen_turn o code w t m s h un =
    let a = acts code w t m h in
    let b = turned code w t a.thread a.top a.rest _ m a.gives in
    let q = unnoted (flows m.event.label o) (shows o m.made) un in
    let hid = ap (λ l. flows l o) (sym b.label) ∙ q.0 in
    let k = b.unseen (top_safe w t a.thread a.top a.rest s a.at a.list).0 o hid in
    let u = with_thread w t b.to in
    let stacks = ap (filter (is_seen o)) a.list ∙ unseen_head o a.top a.rest hid ∙ sym (k.stacks ∙ ap (λ l. l ++ filter (is_seen o) a.rest) (new_unseen o code m.made q.1)) in
    let moved = one_thread o w t a.thread b.to a.at stacks (λ p. sym (k.result p)) in
    let changed = alike_trans o (effect_of code t b.effect u) (shown m.made u) u (hidden_shown o code t b.effect u m.made k.effect) (shown_kept o m.made u q.1) in
    subst (Alike o w) (sym b.world) (alike_trans o w u _ moved (alike_sym o _ u changed))

-- ---- releases

-- two releases of the same content
pub release_pair : (o : Label) (code : CodeTree) (w w' : World) (t : ℕ) (m m' : Moment) → AreWellLabelled w → AreWellLabelled w' → Alike o w w' → step code w t ≡ Some m → step code w' t ≡ Some m' → flows m.event.label o ≡ false → flows m'.event.label o ≡ false → m.made ≡ m'.made → Alike o m.world m'.world
release_pair o code w w' t m m' s s' l h h' un un' content =
    let a = acts code w t m h in
    let a' = acts code w' t m' h' in
    let b = turned code w t a.thread a.top a.rest _ m a.gives in
    let b' = turned code w' t a'.thread a'.top a'.rest _ m' a'.gives in
    let hid = ap (λ l. flows l o) (sym b.label) ∙ un in
    let hid' = ap (λ l. flows l o) (sym b'.label) ∙ un' in
    let k = b.unseen (top_safe w t a.thread a.top a.rest s a.at a.list).0 o hid in
    let k' = b'.unseen (top_safe w' t a'.thread a'.top a'.rest s' a'.at a'.list).0 o hid' in
    let u = with_thread w t b.to in
    let u' = with_thread w' t b'.to in
    let rests = sym (ap (λ x. filter (is_seen o) (contexts_in x)) a.at ∙ ap (filter (is_seen o)) a.list ∙ unseen_head o a.top a.rest hid) ∙ l.threads.contexts t ∙ (ap (λ x. filter (is_seen o) (contexts_in x)) a'.at ∙ ap (filter (is_seen o)) a'.list ∙ unseen_head o a'.top a'.rest hid') in
    let stacks = k.stacks ∙ ap (λ x. filter (is_seen o) (new_contexts code x) ++ filter (is_seen o) a.rest) content ∙ ap (λ r. filter (is_seen o) (new_contexts code m'.made) ++ r) rests ∙ sym k'.stacks in
    let results : flows public_label o ≡ true → b.to.result ≡ b'.to.result = λ p. k.result p ∙ sym (ap result_in a.at) ∙ l.threads.results p t ∙ ap result_in a'.at ∙ sym (k'.result p) in
    let moved = with_threads o w w' _ _ l (threads_set o t w.threads w'.threads a.thread a'.thread b.to b'.to l.threads a.at a'.at stacks results) in
    let one = hidden_shown o code t b.effect u m.made k.effect in
    let two = hidden_shown o code t b'.effect u' m'.made k'.effect in
    let same = subst (λ x. Alike o (shown m.made u) (shown x u')) content (shown_same o m.made u u' moved) in
    subst (λ x. Alike o x m'.world) (sym b.world)
    (subst (Alike o (effect_of code t b.effect u)) (sym b'.world)
    (alike_trans o _ (shown m.made u) _ one (alike_trans o _ (shown m'.made u') _ same (alike_sym o _ _ two))))

-- ---- seen turns

pub first_two : (x y : Context) (xs ys : List Context) → x ∷ xs ≡ y ∷ ys → (x ≡ y) × (xs ≡ ys)
first_two x y xs ys e = (cc, cc)

seen_head : (o : Label) (c : Context) (rest : List Context) → flows c.label o ≡ true → filter (is_seen o) (c ∷ rest) ≡ c ∷ filter (is_seen o) rest
seen_head o c rest s = ap (λ b. cond b (c ∷ filter (is_seen o) rest) (filter (is_seen o) rest)) s

pub record Pair (o : Label) (m m' : Moment) : Type 0 where
  pub event : m.event ≡ m'.event
  pub alike : Alike o m.world m'.world

-- where two threads stand with the same acting context and the same seen ones below
record Beside (o : Label) (w w' : World) (t : ℕ) (th th' : Thread) (rest rest' : List Context) : Type 0 where
  alike : Alike o w w'
  at : thread_at w t ≡ Some th
  at' : thread_at w' t ≡ Some th'
  rests : filter (is_seen o) rest ≡ filter (is_seen o) rest'
  results : flows public_label o ≡ true → th.result ≡ th'.result

went_pair : (o : Label) (w w' : World) (t : ℕ) (th th' : Thread) (c : Context) (rest rest' : List Context) (i : Inside) → Beside o w w' t th th' rest rest' → Pair o (goes_on w t th c rest i) (goes_on w' t th' c rest' i)
unfolding private_to
went_pair o w w' t th th' c rest rest' i b =
    record {
      event = refl;
      alike = with_threads o w w' _ _ b.alike
          (threads_set o t w.threads w'.threads th th' (private_to th c rest i) (private_to th' c rest' i) b.alike.threads b.at b.at'
          (ap (λ r. cond (flows c.label o) (with_inside c i ∷ r) r) b.rests) b.results);
    }

asked_pair : (o : Label) (code : CodeTree) (w w' : World) (t : ℕ) (th th' : Thread) (c : Context) (rest rest' : List Context) (a : Ask) (i : Inside) → flows c.label o ≡ true → Beside o w w' t th th' rest rest' → Pair o (served code w t th c rest a i (serve w c a)) (served code w' t th' c rest' a i (serve w' c a))
asked_pair o code w w' t th th' c rest rest' a i seen b =
    let d = serve w c a in
    let to = takes code th c rest i a d.answer in
    let to' = takes code th' c rest' i a d.answer in
    let f = front code c i a d.answer in
    let stacks : filter (is_seen o) to.contexts ≡ filter (is_seen o) to'.contexts
    = ap (filter (is_seen o)) (answered_front code c rest i a d.answer) ∙ filter-append (is_seen o) f rest ∙ ap (λ r. filter (is_seen o) f ++ r) b.rests ∙ sym (filter-append (is_seen o) f rest') ∙ sym (ap (filter (is_seen o)) (answered_front code c rest' i a d.answer)) in
    let moved = with_threads o w w' _ _ b.alike (threads_set o t w.threads w'.threads th th' to to' b.alike.threads b.at b.at' stacks (λ p. ap (λ r. result_after r a) (b.results p))) in
    let both = effect_same o code t d.effect (with_thread w t to) (with_thread w' t to') ((served_proper w c a).openly o seen) moved in
    let here : Pair o (served code w t th c rest a i d) (served code w' t th' c rest' a i d) = record { event = refl; alike = both } in
    subst (λ x. Pair o (served code w t th c rest a i d) (served code w' t th' c rest' a i x)) (serve_same o w w' c a seen b.alike) here

pair_by : (o : Label) (code : CodeTree) (w w' : World) (t : ℕ) (th th' : Thread) (c : Context) (rest rest' : List Context) (nx : Next) (m m' : Moment) → flows c.label o ≡ true → Beside o w w' t th th' rest rest' → turn_by code w t th c rest nx ≡ Some m → turn_by code w' t th' c rest' nx ≡ Some m' → Pair o m m'
pair_by o code w w' t th th' c rest rest' (goes i) m m' seen b h h' =
    subst (λ x. Pair o x m') (some_inj _ m h) (subst (Pair o _) (some_inj _ m' h') (went_pair o w w' t th th' c rest rest' i b))
pair_by o code w w' t th th' c rest rest' (asks a i) m m' seen b h h' =
    let p = only (is_ready w t c a) (served code w t th c rest a i (serve w c a)) m h in
    let p' = only (is_ready w' t c a) (served code w' t th' c rest' a i (serve w' c a)) m' h' in
    subst (λ x. Pair o x m') p.1 (subst (Pair o (served code w t th c rest a i (serve w c a))) p'.1 (asked_pair o code w w' t th th' c rest rest' a i seen b))
pair_by o code w w' t th th' c rest rest' stuck m m' seen b h h' = absurd cc

-- seen turns of the same thread give equal events, and keep the worlds alike
pub seen_pair : (o : Label) (code : CodeTree) (w w' : World) (t : ℕ) (m m' : Moment) → Alike o w w' → step code w t ≡ Some m → step code w' t ≡ Some m' → flows m.event.label o ≡ true → flows m'.event.label o ≡ true → Pair o m m'
seen_pair o code w w' t m m' l h h' is is' =
    let a = acts code w t m h in
    let a' = acts code w' t m' h' in
    let b = turned code w t a.thread a.top a.rest _ m a.gives in
    let b' = turned code w' t a'.thread a'.top a'.rest _ m' a'.gives in
    let seen = ap (λ l. flows l o) (sym b.label) ∙ is in
    let seen' = ap (λ l. flows l o) (sym b'.label) ∙ is' in
    let lists = sym (ap (λ x. filter (is_seen o) (contexts_in x)) a.at ∙ ap (filter (is_seen o)) a.list ∙ seen_head o a.top a.rest seen) ∙ l.threads.contexts t ∙ (ap (λ x. filter (is_seen o) (contexts_in x)) a'.at ∙ ap (filter (is_seen o)) a'.list ∙ seen_head o a'.top a'.rest seen') in
    let two = first_two a.top a'.top _ _ lists in
    let gives' = subst (λ x. turn_by code w' t a'.thread x a'.rest (next_of code x) ≡ Some m') (sym two.0) a'.gives in
    let beside : Beside o w w' t a.thread a'.thread a.rest a'.rest
    = record { alike = l; at = a.at; at' = a'.at; rests = two.1; results = λ p. sym (ap result_in a.at) ∙ l.threads.results p t ∙ ap result_in a'.at } in
    pair_by o code w w' t a.thread a'.thread a.top a.rest a'.rest (next_of code a.top) m m' seen beside a.gives gives'

pub turn_thread : (code : CodeTree) (w : World) (t : ℕ) (m : Moment) → step code w t ≡ Some m → m.event.thread ≡ t
turn_thread code w t m h =
    let a = acts code w t m h in
    (turned code w t a.thread a.top a.rest _ m a.gives).thread
