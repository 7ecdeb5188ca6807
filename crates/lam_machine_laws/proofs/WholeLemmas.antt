-- The whole of two runs.
use Rattle.std.proofs.Common.{◌≡◌, ℕ, zero, suc, ◌≤◌, Bool, true, false, List, [], ◌∷◌, Option, Some, None, length, take, refl, sym, ap, ◌∙◌, subst, arith}
use Rattle.std.specs.Prelude.{cond, map, slice_get}
use Rattle.flow_labels.specs.declared.Label.{Label}
use Rattle.flow_labels.specs.Flow.{flows}
use Rattle.lam_machine_effects.specs.Codes.{CodeTree}
use Rattle.lam_machine_effects.specs.Worlds.{World}
use Rattle.lam_machine_effects.specs.Turns.{Moment, step, and_then, moments, left_by}
use Rattle.lam_machine_effects.specs.Views.{View, view, is_noted, Release, release_of, Item, turn, past, event, release, item_of, entry_of, noted}
use Rattle.lam_machine_laws.specs.Isolation.{AreWellLabelled, IsIsolated, IsSteady}
use Rattle.lam_machine_laws.proofs.AlikeLemmas.{Alike, alike_by_view, view_by_alike, alike_refl, alike_sym, alike_trans}
use Rattle.lam_machine_laws.proofs.TurnLemmas.{step_safe, unseen_turn, release_pair, seen_pair, turn_thread}

-- the first noted step of a run
record First (code : CodeTree) (o : Label) (ts : List ℕ) (w : World) : Type 0 where
  mid : World
  thread : ℕ
  it : Moment
  rest : List ℕ
  alike : Alike o w mid
  valid : AreWellLabelled mid
  takes : step code mid thread ≡ Some it
  is_one : is_noted o it ≡ true
  list : noted o (moments code ts w) ≡ it ∷ noted o (moments code rest it.world)

data Skim (code : CodeTree) (o : Label) (ts : List ℕ) (w : World) : Type 0 where
  No_more : noted o (moments code ts w) ≡ [] → Skim code o ts w
  One : First code o ts w → Skim code o ts w

pub passed_over : (o : Label) (m : Moment) (ms : List Moment) → is_noted o m ≡ false → noted o (m ∷ ms) ≡ noted o ms
passed_over o m ms h = ap (λ b. cond b (m ∷ noted o ms) (noted o ms)) h

pub taken_up : (o : Label) (m : Moment) (ms : List Moment) → is_noted o m ≡ true → noted o (m ∷ ms) ≡ m ∷ noted o ms
taken_up o m ms h = ap (λ b. cond b (m ∷ noted o ms) (noted o ms)) h

pub ahead : (code : CodeTree) (o : Label) (t : ℕ) (ts : List ℕ) (w : World) (m : Moment) → step code w t ≡ Some m → noted o (moments code (t ∷ ts) w) ≡ noted o (m ∷ moments code ts m.world)
ahead code o t ts w m h = ap (λ x. noted o (and_then x (moments code ts))) h

go_past : (code : CodeTree) (o : Label) (t : ℕ) (ts : List ℕ) (w : World) (m : Moment) → Alike o w m.world → noted o (moments code (t ∷ ts) w) ≡ noted o (moments code ts m.world) → Skim code o ts m.world → Skim code o (t ∷ ts) w
go_past code o t ts w m a e (No_more h) = No_more (e ∙ h)
go_past code o t ts w m a e (One f) =
    One (record {
      mid = f.mid;
      thread = f.thread;
      it = f.it;
      rest = f.rest;
      alike = alike_trans o w m.world f.mid a f.alike;
      valid = f.valid;
      takes = f.takes;
      is_one = f.is_one;
      list = e ∙ f.list;
    })

skim : (code : CodeTree) (o : Label) (ts : List ℕ) (w : World) → AreWellLabelled w → Skim code o ts w
skim code o [] w v = No_more refl
skim code o (t ∷ ts) w v = look (λ u k. skim code o ts u k) (step code w t) refl
  where
    sort : ((u : World) → AreWellLabelled u → Skim code o ts u) → (m : Moment) → step code w t ≡ Some m → (b : Bool) → is_noted o m ≡ b → Skim code o (t ∷ ts) w
    sort more m h true e =
        One (record {
          mid = w;
          thread = t;
          it = m;
          rest = ts;
          alike = alike_refl o w;
          valid = v;
          takes = h;
          is_one = e;
          list = ahead code o t ts w m h ∙ taken_up o m (moments code ts m.world) e;
        })
    sort more m h false e =
        go_past code o t ts w m (unseen_turn o code w t m v h e)
        (ahead code o t ts w m h ∙ passed_over o m (moments code ts m.world) e)
        (more m.world (step_safe code w t m v h))

    look : ((u : World) → AreWellLabelled u → Skim code o ts u) → (x : Option Moment) → step code w t ≡ x → Skim code o (t ∷ ts) w
    look more None h = No_more (ap (λ x. noted o (and_then x (moments code ts))) h)
    look more (Some m) h = sort more m h (is_noted o m) refl

-- ---- equal items of two noted steps

record Together (o : Label) (m m' : Moment) : Type 0 where
  entries : entry_of o m ≡ entry_of o m'
  alike : Alike o m.world m'.world

pub item_turn : (o : Label) (m : Moment) → flows m.event.label o ≡ true → item_of o m ≡ turn m.event.thread
item_turn o m h = ap (λ b. cond b (turn m.event.thread) (past (release_of m))) h

pub item_past : (o : Label) (m : Moment) → flows m.event.label o ≡ false → item_of o m ≡ past (release_of m)
item_past o m h = ap (λ b. cond b (turn m.event.thread) (past (release_of m))) h

entry_seen : (o : Label) (m : Moment) → flows m.event.label o ≡ true → entry_of o m ≡ event m.event
entry_seen o m h = ap (λ b. cond b (event m.event) (release (release_of m))) h

entry_past : (o : Label) (m : Moment) → flows m.event.label o ≡ false → entry_of o m ≡ release (release_of m)
entry_past o m h = ap (λ b. cond b (event m.event) (release (release_of m))) h

turn_inj : (t u : ℕ) → turn t ≡ turn u → t ≡ u
turn_inj t u e = cc

pub past_inj : (r s : Release) → past r ≡ past s → r ≡ s
past_inj r s e = cc

pub one_or_other : (t : ℕ) (r : Release) {X : Type 0} → turn t ≡ past r → X
one_or_other t r e = absurd cc

-- two noted steps with equal items, from worlds that look alike
together : (o : Label) (code : CodeTree) (w w' : World) (t t' : ℕ) (m m' : Moment) → AreWellLabelled w → AreWellLabelled w' → Alike o w w' → step code w t ≡ Some m → step code w' t' ≡ Some m' → item_of o m ≡ item_of o m' → Together o m m'
together o code w w' t t' m m' v v' alike h h' same = sort (flows m.event.label o) (flows m'.event.label o) refl refl
  where
    same_thread : m.event.thread ≡ m'.event.thread → step code w' t ≡ Some m'
    same_thread e = subst (λ u. step code w' u ≡ Some m') (sym (turn_thread code w' t' m' h') ∙ sym e ∙ turn_thread code w t m h) h'

    sort : (a b : Bool) → flows m.event.label o ≡ a → flows m'.event.label o ≡ b → Together o m m'
    sort true true e e' =
        let threads = turn_inj m.event.thread m'.event.thread (sym (item_turn o m e) ∙ same ∙ item_turn o m' e') in
        let pair = seen_pair o code w w' t m m' alike h (same_thread threads) e e' in
        record { entries = entry_seen o m e ∙ ap event pair.event ∙ sym (entry_seen o m' e'); alike = pair.alike }
    sort false false e e' =
        let releases = past_inj (release_of m) (release_of m') (sym (item_past o m e) ∙ same ∙ item_past o m' e') in
        let threads = ap (λ r. r.thread) releases in
        let content = ap (λ r. r.content) releases in
        record {
          entries = entry_past o m e ∙ ap release releases ∙ sym (entry_past o m' e');
          alike = release_pair o code w w' t m m' v v' alike h (same_thread threads) e e' content;
        }
    sort true false e e' = one_or_other m.event.thread (release_of m') (sym (item_turn o m e) ∙ same ∙ item_past o m' e')
    sort false true e e' = one_or_other m'.event.thread (release_of m) (sym (item_turn o m' e') ∙ sym same ∙ item_past o m e)

-- ---- both lists

-- what is claimed, of the noted steps alone
record Agreeing (n : ℕ) (o : Label) (w : World) (ms : List Moment) (w' : World) (ms' : List Moment) : Type 0 where
  entries : take n (map (entry_of o) ms) ≡ take n (map (entry_of o) ms')
  states : slice_get (view o w ∷ map (λ (m : Moment). view o m.world) ms) n ≡ slice_get (view o w' ∷ map (λ (m : Moment). view o m.world) ms') n

front : (n : ℕ) (x y : Item) (xs ys : List Item) → take (suc n) (x ∷ xs) ≡ take (suc n) (y ∷ ys) → (x ≡ y) × (take n xs ≡ take n ys)
front n x y xs ys e = (cc, cc)

both_go : (n : ℕ) (o : Label) (w w' : World) (m m' : Moment) (ms ms' : List Moment) → entry_of o m ≡ entry_of o m' → Agreeing n o m.world ms m'.world ms' → Agreeing (suc n) o w (m ∷ ms) w' (m' ∷ ms')
both_go n o w w' m m' ms ms' e a = record { entries = λ i. e i ∷ a.entries i; states = a.states }

whole : (code : CodeTree) (o : Label) (n : ℕ) (w w' : World) (ts ts' : List ℕ) → AreWellLabelled w → AreWellLabelled w' → Alike o w w' → n ≤ length (map (item_of o) (noted o (moments code ts w))) → n ≤ length (map (item_of o) (noted o (moments code ts' w'))) → take n (map (item_of o) (noted o (moments code ts w))) ≡ take n (map (item_of o) (noted o (moments code ts' w'))) → Agreeing n o w (noted o (moments code ts w)) w' (noted o (moments code ts' w'))
whole code o zero w w' ts ts' v v' alike le le' e = record { entries = refl; states = ap Some (view_by_alike o w w' alike) }
whole code o (suc n) w w' ts ts' v v' alike le le' e = go (λ u u' us us'. whole code o n u u' us us') (skim code o ts w v) (skim code o ts' w' v')
  where
    short : (ms : List Moment) → ms ≡ [] → suc n ≤ length (map (item_of o) ms) → ⊥
    short ms e l = let z : length (map (item_of o) ms) ≡ 0 = ap (λ l. length (map (item_of o) l)) e in omega arith

    go : ((u u' : World) (us us' : List ℕ) → AreWellLabelled u → AreWellLabelled u' → Alike o u u' → n ≤ length (map (item_of o) (noted o (moments code us u))) → n ≤ length (map (item_of o) (noted o (moments code us' u'))) → take n (map (item_of o) (noted o (moments code us u))) ≡ take n (map (item_of o) (noted o (moments code us' u'))) → Agreeing n o u (noted o (moments code us u)) u' (noted o (moments code us' u'))) → Skim code o ts w → Skim code o ts' w' → Agreeing (suc n) o w (noted o (moments code ts w)) w' (noted o (moments code ts' w'))
    go more (No_more h) s' = absurd (short _ h le)
    go more (One f) (No_more h) = absurd (short _ h le')
    go more (One f) (One f') =
        let m = f.it in
        let m' = f'.it in
        let ms = noted o (moments code f.rest m.world) in
        let ms' = noted o (moments code f'.rest m'.world) in
        let heads = front n (item_of o m) (item_of o m') (map (item_of o) ms) (map (item_of o) ms') (sym (ap (λ l. take (suc n) (map (item_of o) l)) f.list) ∙ e ∙ ap (λ l. take (suc n) (map (item_of o) l)) f'.list) in
        let mid = alike_trans o f.mid w f'.mid (alike_sym o w f.mid f.alike) (alike_trans o w w' f'.mid alike f'.alike) in
        let both = together o code f.mid f'.mid f.thread f'.thread m m' f.valid f'.valid mid f.takes f'.takes heads.0 in
        let l : suc n ≤ suc (length (map (item_of o) ms)) = subst (λ l. suc n ≤ length (map (item_of o) l)) f.list le in
        let l' : suc n ≤ suc (length (map (item_of o) ms')) = subst (λ l. suc n ≤ length (map (item_of o) l)) f'.list le' in
        let rest = more m.world m'.world f.rest f'.rest (step_safe code f.mid f.thread m f.valid f.takes) (step_safe code f'.mid f'.thread m' f'.valid f'.takes) both.alike (omega arith) (omega arith) heads.1 in
        subst (λ l. Agreeing (suc n) o w l w' (noted o (moments code ts' w'))) (sym f.list)
        (subst (λ l. Agreeing (suc n) o w (m ∷ ms) w' l) (sym f'.list) (both_go n o w w' m m' ms ms' both.entries rest))

pub isolated : (code : CodeTree) (o : Label) → IsIsolated code o
isolated code o s s' turns turns' n v v' same is is' le le' e =
    let a = whole code o n s s' turns turns' v v' (alike_by_view o s s' same.public same.views) le le' e in
    record { traces = a.entries; states = a.states }

-- ---- between entries

-- the views from a world on, by what is noted
from : Label → View → List Moment → World → Type 0
from o v ns u = slice_get (v ∷ map (λ (m : Moment). view o m.world) ns) (length (map (item_of o) ns)) ≡ Some (view o u)

steady_on : (code : CodeTree) (o : Label) (ts : List ℕ) (w : World) → AreWellLabelled w → from o (view o w) (noted o (moments code ts w)) (left_by w (moments code ts w))
unfolding from
steady_on code o [] w v = refl
steady_on code o (t ∷ ts) w v = look (λ u k. steady_on code o ts u k) (step code w t) refl
  where
    sort : ((u : World) → AreWellLabelled u → from o (view o u) (noted o (moments code ts u)) (left_by u (moments code ts u))) → (m : Moment) → step code w t ≡ Some m → (b : Bool) → is_noted o m ≡ b → from o (view o w) (noted o (m ∷ moments code ts m.world)) (left_by m.world (moments code ts m.world))
    sort more m h true e = subst (λ ns. from o (view o w) ns (left_by m.world (moments code ts m.world))) (sym (taken_up o m (moments code ts m.world) e)) (more m.world (step_safe code w t m v h))
    sort more m h false e =
        subst (λ ns. from o (view o w) ns (left_by m.world (moments code ts m.world))) (sym (passed_over o m (moments code ts m.world) e))
        (subst (λ x. from o x (noted o (moments code ts m.world)) (left_by m.world (moments code ts m.world))) (sym (view_by_alike o w m.world (unseen_turn o code w t m v h e)))
        (more m.world (step_safe code w t m v h)))

    look : ((u : World) → AreWellLabelled u → from o (view o u) (noted o (moments code ts u)) (left_by u (moments code ts u))) → (x : Option Moment) → step code w t ≡ x → from o (view o w) (noted o (and_then (step code w t) (moments code ts))) (left_by w (and_then (step code w t) (moments code ts)))
    look more None h = subst (λ x. from o (view o w) (noted o (and_then x (moments code ts))) (left_by w (and_then x (moments code ts)))) (sym h) refl
    look more (Some m) h = subst (λ x. from o (view o w) (noted o (and_then x (moments code ts))) (left_by w (and_then x (moments code ts)))) (sym h) (sort more m h (is_noted o m) refl)

pub steady : (code : CodeTree) (o : Label) → IsSteady code o
unfolding from
steady code o s turns v is = steady_on code o turns s v
