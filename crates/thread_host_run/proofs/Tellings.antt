-- What is known of each thread, as a list: one place of it changes, some are added, and it is gone through.
use Rattle.std.proofs.Common.{◌≡◌, ℕ, zero, suc, ◌+◌, ◌<◌, ◌≤◌, true, false, List, [], ◌∷◌, ◌++◌, Some, None, length, refl, sym, ap, ◌∙◌, subst, inl, inr, arith, true≢false}
use Rattle.std.specs.Prelude.{slice_get, slice_set, ◌⊎◌, is_some}
use Rattle.std.specs.List.{filter, range_with_len}
use Rattle.std.proofs.lemmas.Option.{slice_get_within}
use Rattle.lam_value.specs.declared.names.Name.{Name}
use Rattle.lam_bytecode.specs.Codes.{CodeTree}
use Rattle.lam_machine_terms.specs.Worlds.{World, thread_at}
use Rattle.lam_machine_terms.specs.Turns.{Moment, step, ready}
use Rattle.lam_machine_laws.proofs.ThreadLemmas.{some_inj}
use Rattle.thread_host_run.specs.ReadyLists.{kept_list}
use Rattle.thread_host_run.specs.Waiting.{awaited_at, IsAwaited, Extends, Tells, TellsBut, AllTell, IsHeldSo}
use Rattle.thread_host_run.specs.Kept.{ListsBy, AllTellBut, OthersTell, unknown, AreBut, AreOld}
use Rattle.thread_host_run.specs.declared.waits.Prospect.{Prospect}
use Rattle.thread_host_run.specs.declared.waits.Touched.{Touched}
use Rattle.thread_host_run.specs.declared.waits.Touched.TheVariants.{OneMonitor, Everything}
use Rattle.thread_host_run.proofs.Others.{Moved, others_ready, as_many, at_same, set_other}
use Rattle.thread_host_run.proofs.Kept.{kept_list_moved}
use Rattle.thread_host_run.proofs.WaitingLemmas.{awaited_more, tells_more, but_more}
use Rattle.thread_host_run.proofs.ListedReady.{taken, left_out}

-- ---- one place

pub set_at : (ps : List Prospect) (t : ℕ) (x : Prospect) (u : ℕ) (p : Prospect) → slice_get (slice_set ps t x) u ≡ Some p → ((u ≡ t) × (p ≡ x)) ⊎ ((u ≡ t → ⊥) × (slice_get ps u ≡ Some p))
set_at [] t x u p e = absurd cc
set_at (y ∷ ps) zero x zero p e = inl (refl, sym (some_inj x p e))
set_at (y ∷ ps) zero x (suc u) p e = inr ((λ f. absurd (omega (arith, f))), e)
set_at (y ∷ ps) (suc t) x zero p e = inr ((λ f. absurd (omega (arith, f))), e)
set_at (y ∷ ps) (suc t) x (suc u) p e = by (set_at ps t x u p e)
  where
    one_less : suc u ≡ suc t → u ≡ t
    one_less f = omega (arith, f)

    by : ((u ≡ t) × (p ≡ x)) ⊎ ((u ≡ t → ⊥) × (slice_get ps u ≡ Some p)) → ((suc u ≡ suc t) × (p ≡ x)) ⊎ ((suc u ≡ suc t → ⊥) × (slice_get ps u ≡ Some p))
    by (inl h) = inl (ap suc h.0, h.1)
    by (inr h) = inr ((λ f. h.0 (one_less f)), h.1)

length_set : (ps : List Prospect) (t : ℕ) (x : Prospect) → length (slice_set ps t x) ≡ length ps
length_set [] t x = refl
length_set (y ∷ ps) zero x = refl
length_set (y ∷ ps) (suc t) x = ap suc (length_set ps t x)

-- what is not there stays as it is
pub put_past : (ps : List Prospect) (t : ℕ) (x : Prospect) → length ps ≤ t → AreBut t x ps ps
put_past ps t x past u p e = inr ((λ f. absurd (out f)), e)
  where
    out : u ≡ t → ⊥
    out f = let lt = slice_get_within ps u p e in absurd (omega (arith, f, lt, past))

-- ---- some are added

push_at : (ps : List Prospect) (x : Prospect) (u : ℕ) (p : Prospect) → slice_get (ps ++ x ∷ []) u ≡ Some p → (slice_get ps u ≡ Some p) ⊎ (p ≡ x)
push_at [] x zero p e = inr (sym (some_inj x p e))
push_at [] x (suc u) p e = absurd cc
push_at (y ∷ ps) x zero p e = inl e
push_at (y ∷ ps) x (suc u) p e = push_at ps x u p e

pub same_old : (ps qs : List Prospect) → qs ≡ ps → AreOld ps qs
same_old ps qs same u p e = inl (sym (ap (λ (l : List Prospect). slice_get l u) same) ∙ e)

pub then_old : (ps qs rs : List Prospect) → AreOld ps qs → AreOld qs rs → AreOld ps rs
then_old ps qs rs first second u p e = by (second u p e)
  where
    by : (slice_get qs u ≡ Some p) ⊎ (p ≡ unknown) → (slice_get ps u ≡ Some p) ⊎ (p ≡ unknown)
    by (inl f) = first u p f
    by (inr f) = inr f

pub empty_old : (ps qs : List Prospect) → qs ≡ [] → AreOld ps qs
empty_old ps qs none u p e = absurd (differs (sym (ap (λ (l : List Prospect). slice_get l u) none) ∙ e))
  where
    differs : slice_get [] u ≡ Some p → ⊥
    differs f = cc

pub more_old : (ps qs rs : List Prospect) → AreOld ps qs → rs ≡ qs ++ unknown ∷ [] → AreOld ps rs
more_old ps qs rs old new u p e = by (push_at qs unknown u p (sym (ap (λ (l : List Prospect). slice_get l u) new) ∙ e))
  where
    by : (slice_get qs u ≡ Some p) ⊎ (p ≡ unknown) → (slice_get ps u ≡ Some p) ⊎ (p ≡ unknown)
    by (inl f) = old u p f
    by (inr f) = inr f

-- ---- what is known but for what was touched

module _ (touched : Touched) (code : CodeTree) (w : World) (ns : List Name) where
  unknown_tells : (u : ℕ) (p : Prospect) → p ≡ unknown → TellsBut touched code w ns u p
  unknown_tells u p e = subst (TellsBut touched code w ns u) (sym e) (record { awaits = tt; ready = λ f. absurd (true≢false f) })

  pub covered : (ps qs : List Prospect) → AreOld ps qs → AllTellBut touched code w ns ps → AllTellBut touched code w ns qs
  covered ps qs old h u p e = by (old u p e)
    where
      by : (slice_get ps u ≡ Some p) ⊎ (p ≡ unknown) → TellsBut touched code w ns u p
      by (inl f) = h u p f
      by (inr f) = unknown_tells u p f

  pub forgot : (t : ℕ) (ps qs : List Prospect) → AreBut t unknown ps qs → OthersTell touched code w ns t ps → AllTellBut touched code w ns qs
  forgot t ps qs but h u p e = by (but u p e)
    where
      by : ((u ≡ t) × (p ≡ unknown)) ⊎ ((u ≡ t → ⊥) × (slice_get ps u ≡ Some p)) → TellsBut touched code w ns u p
      by (inl f) = unknown_tells u p f.1
      by (inr f) = h u p f.0 f.1

  pub nothing_known : (ps : List Prospect) → ps ≡ [] → AllTellBut touched code w ns ps
  nothing_known ps none u p e = absurd (differs (sym (ap (λ (l : List Prospect). slice_get l u) none) ∙ e))
    where
      differs : slice_get [] u ≡ Some p → ⊥
      differs f = cc

pub held_more : (ns ms : List Name) (w : World) (touched : Touched) → Extends ns ms → IsHeldSo ns w touched → IsHeldSo ms w touched
held_more ns ms w (OneMonitor None h) more is = tt
held_more ns ms w (OneMonitor (Some k) h) more is = (is.0, more k is.0 is.1, is.2)
held_more ns ms w Everything more is = tt

-- ---- the list is gone through

module _ (code : CodeTree) (w : World) where
  -- of each thread below a number
  abbrev pub ToldBelow : List Name → List Prospect → ℕ → Type 0
  ToldBelow ns ps t = (u : ℕ) (p : Prospect) → u < t → slice_get ps u ≡ Some p → Tells code w ns u p

  pub told_more : (ns ms : List Name) (ps : List Prospect) (t : ℕ) (x : Prospect) → Extends ns ms → ToldBelow ns ps t → Tells code w ms t x → ToldBelow ms (slice_set ps t x) (t + 1)
  told_more ns ms ps t x more told here u p lt e = by (set_at ps t x u p e)
    where
      below : (u ≡ t → ⊥) → u < t
      below ne = omega (arith, lt)

      by : ((u ≡ t) × (p ≡ x)) ⊎ ((u ≡ t → ⊥) × (slice_get ps u ≡ Some p)) → Tells code w ms u p
      by (inl h) = subst (λ (v : ℕ). Tells code w ms v p) (sym h.0) (subst (Tells code w ms t) (sym h.1) here)
      by (inr h) = tells_more code w ns ms u p more (told u p (below h.0) h.1)

  pub all_told : (ns : List Name) (ps : List Prospect) (ts : List ℕ) (n : ℕ) → n ≡ length w.threads → length ps ≡ length w.threads → ToldBelow ns ps n → ts ≡ filter (ready code w) (range_with_len 0 n) → ListsBy code w ns ps ts
  all_told ns ps ts n count long told list = record {
    threads_are = list ∙ ap (λ k. filter (ready code w) (range_with_len 0 k)) count;
    tell = record { count = long; each = λ u p e. told u p (let lt = slice_get_within ps u p e in omega (arith, lt, long, count)) e };
  }

-- ---- after a quiet turn

pub turn_ready : (code : CodeTree) (w : World) (t : ℕ) (m : Moment) → step code w t ≡ Some m → ready code w t ≡ true
unfolding ready
turn_ready code w t m h = ap is_some h

module _ (code : CodeTree) (w : World) (t : ℕ) (after : World) (moved : Moved w t after) (ns ms : List Name) (ps qs : List Prospect) (x : Prospect) where
  stays_told : (u : ℕ) (p : Prospect) → (u ≡ t → ⊥) → Extends ns ms → Tells code w ns u p → Tells code after ms u p
  stays_told u p ne more h =
      let apart = λ (e : t ≡ u). ne (sym e) in
      record {
        awaits = subst (λ o. IsAwaited ms p.awaits (awaited_at code o)) (sym (at_same code w after t moved u apart)) (awaited_more ns ms p.awaits (awaited_at code (thread_at w u)) more h.awaits);
        ready = h.ready ∙ sym (others_ready code w t after moved u apart);
      }

  pub moved_tell : AllTell code w ns ps → Extends ns ms → Tells code after ms t x → AreBut t x ps qs → length qs ≡ length ps → AllTell code after ms qs
  moved_tell all more here but long = record {
    count = long ∙ all.count ∙ sym (as_many w t after moved);
    each = λ u p e. by u p (but u p e);
  }
    where
      by : (u : ℕ) (p : Prospect) → ((u ≡ t) × (p ≡ x)) ⊎ ((u ≡ t → ⊥) × (slice_get ps u ≡ Some p)) → Tells code after ms u p
      by u p (inl h) = subst (λ (v : ℕ). Tells code after ms v p) (sym h.0) (subst (Tells code after ms t) (sym h.1) here)
      by u p (inr h) = stays_told u p h.0 more (all.each u p h.1)

  pub moved_lists : (xs ys : List ℕ) → ready code w t ≡ true → ListsBy code w ns ps xs → Extends ns ms → Tells code after ms t x → AreBut t x ps qs → length qs ≡ length ps
      → ys ≡ kept_list x.ready t xs → ListsBy code after ms qs ys
  moved_lists xs ys is_ready lists more here but long new = record {
    threads_are = kept_list_moved code w t after xs ys moved is_ready lists.threads_are (new ∙ ap (λ b. kept_list b t xs) here.ready);
    tell = moved_tell lists.tell more here but long;
  }

-- ---- the list is gone through up to a thread

pub record GoneThrough (touched : Touched) (code : CodeTree) (w : World) (first ns : List Name) (before ps : List Prospect) (ts : List ℕ) (t : ℕ) : Type 0 where
  pub count : length ps ≡ length before
  pub rest : (u : ℕ) → t ≤ u → slice_get ps u ≡ slice_get before u
  pub more : Extends first ns
  pub told : IsHeldSo first w touched → AllTellBut touched code w first before → ToldBelow code w ns ps t × (ts ≡ filter (ready code w) (range_with_len 0 t))

pub gone_none : (touched : Touched) (code : CodeTree) (w : World) (ns : List Name) (ps : List Prospect) (ts : List ℕ) → ts ≡ [] → GoneThrough touched code w ns ns ps ps ts 0
gone_none touched code w ns ps ts none = record {
  count = refl;
  rest = λ u h. refl;
  more = λ k n e. e;
  told = λ held but. ((λ u p lt e. absurd (omega (arith, lt))), none);
}

module _ (touched : Touched) (code : CodeTree) (w : World) (first ns ms : List Name) (before ps qs : List Prospect) (ts us : List ℕ) (t : ℕ) (p q : Prospect) (gone : GoneThrough touched code w first ns before ps ts t) (at : slice_get ps t ≡ Some p) (more : Extends ns ms) (tells : IsHeldSo ns w touched → TellsBut touched code w ns t p → Tells code w ms t q) (put : qs ≡ slice_set ps t q) where
  now_told : IsHeldSo first w touched → AllTellBut touched code w first before → Tells code w ms t q
  now_told held but =
      let le : t ≤ t = omega arith in
      tells (held_more first ns w touched gone.more held) (but_more touched code w first ns t p gone.more (but t p (sym (gone.rest t le) ∙ at)))

  gone_with : ((held : IsHeldSo first w touched) (but : AllTellBut touched code w first before) → us ≡ filter (ready code w) (range_with_len 0 (t + 1))) → GoneThrough touched code w first ms before qs us (t + 1)
  gone_with list = record {
    count = ap length put ∙ length_set ps t q ∙ gone.count;
    rest = λ u h. (let ne : t ≡ u → ⊥ = λ e. absurd (omega (arith, h, e)) in let le : t ≤ u = omega (arith, h) in ap (λ (l : List Prospect). slice_get l u) put ∙ set_other ps t u q ne ∙ gone.rest u le);
    more = λ k n e. more k n (gone.more k n e);
    told = λ held but. (subst (λ (l : List Prospect). ToldBelow code w ms l (t + 1)) (sym put) (told_more code w ns ms ps t q more (gone.told held but).0 (now_told held but)), list held but);
  }

  pub gone_taken : q.ready ≡ true → us ≡ ts ++ t ∷ [] → GoneThrough touched code w first ms before qs us (t + 1)
  gone_taken ready_is is = gone_with (λ held but. is ∙ ap (λ (l : List ℕ). l ++ t ∷ []) (gone.told held but).1 ∙ sym (taken (ready code w) t (sym (now_told held but).ready ∙ ready_is)))

  pub gone_left : q.ready ≡ false → us ≡ ts → GoneThrough touched code w first ms before qs us (t + 1)
  gone_left ready_is is = gone_with (λ held but. is ∙ (gone.told held but).1 ∙ sym (left_out (ready code w) t (sym (now_told held but).ready ∙ ready_is)))

pub gone_all : (touched : Touched) (code : CodeTree) (w : World) (first ns : List Name) (before ps : List Prospect) (ts : List ℕ) (n : ℕ) → n ≡ length w.threads → length before ≡ length w.threads → GoneThrough touched code w first ns before ps ts n
    → IsHeldSo first w touched → AllTellBut touched code w first before → ListsBy code w ns ps ts
gone_all touched code w first ns before ps ts n count long gone held but =
    let told = gone.told held but in all_told code w ns ps ts n count (gone.count ∙ long) told.0 told.1
