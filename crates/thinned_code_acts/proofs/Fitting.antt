-- A thread that runs alone agrees with what is known, while its asks are those that a program means and its answers suit.
use Rattle.std.proofs.Common.{◌≡◌, ℕ, zero, suc, ◌+◌, List, [], ◌∷◌, ◌++◌, map, true, Option, Some, length, slice_get, drop, refl, sym, ap, ◌∙◌, subst, arith, length-append}
use Rattle.std.specs.List.{AllByRecursion}
use Rattle.std.proofs.lemmas.Option.{slice_get-map}
use Rattle.lam_asks.specs.declared.answer.Outcome.{Outcome}
use Rattle.lam_asks.specs.declared.answer.Answer.{Answer}
use Rattle.lam_asks.specs.declared.answer.Answer.TheVariants.{Done, Entered}
use Rattle.lam_asks.specs.declared.ask.Ask.{Ask}
use Rattle.lam_asks.specs.declared.ask.Ask.TheVariants as ask
use Rattle.lam_asks.specs.Suits.{Sort, numbers, is_value, want_of, fits}
use Rattle.lam_bytecode.specs.Codes.{CodeTree, IsCode}
use Rattle.thread_steps.specs.Threads.{Context, Thread}
use Rattle.thread_steps.specs.Next.{Next, goes, asks, stuck, next_of}
use Rattle.guarded_code.specs.Breaks.{IsGuarded}
use Rattle.guarded_code.proofs.Tables.{none_some, some_inj}
use Rattle.thinned_code.proofs.Thinning.{map_some}
use Rattle.guarded_code_threads.specs.Described.{IsDescribedContext}
use Rattle.guarded_code_threads.specs.Answers.{IsOfForm, Answers}
use Rattle.guarded_code_threads.specs.Laws.{PrivateTurnsKeep, AnswersKeep}
use Rattle.guarded_code_threads.proofs.Forms.{fits_form}
use Rattle.lam_meaning.specs.Trees.{Asked}
use Rattle.lam_meaning.specs.Plays.{AllFit}
use Rattle.lam_meaning_laws.specs.Lone.{Lone, runs, waits, work_of, done, turn_of, turn, asks_in}
use Rattle.lam_meaning_laws.specs.Acts.{AreFirst}
use Rattle.thinned_code_acts.proofs.Wanted.{IsWanted}
use Rattle.thinned_code_acts.proofs.Lone.{IsDescribedAlone}

-- ---- forms
read_form : (s : Sort) (x : Answer) → IsOfForm (is_value s) x → IsOfForm (is_value numbers) x
read_form s Done h = h
read_form s Entered h = h
read_form s x h = tt

-- only a read hangs on the sort that its place wants
form_of : (s : Sort) (a : Ask) (x : Answer) → IsOfForm (want_of s a).gives x → Answers a x
form_of s (ask.Read r at) x h = read_form s x h
form_of s a x h = h

answers_by : (q : Asked) (x : Answer) → IsWanted q → fits q.want x ≡ true → Answers q.ask x
answers_by q x w f = form_of w.0 q.ask x (fits_form (want_of w.0 q.ask) x (subst (λ v. fits v x ≡ true) w.1 f))

-- ---- lists
fits_at : (qs : List Asked) (xs : List Answer) (i : ℕ) (q : Asked) (x : Answer) → AllFit qs xs → slice_get qs i ≡ Some q → slice_get xs i ≡ Some x → fits q.want x ≡ true
fits_at [] xs i q x h e f = none_some e
fits_at (p ∷ qs) [] i q x h e f = none_some f
fits_at (p ∷ qs) (y ∷ xs) zero q x h e f = subst (λ z. fits q.want z ≡ true) (some_inj f) (subst (λ z. fits z.want y ≡ true) (some_inj e) h.0)
fits_at (p ∷ qs) (y ∷ xs) (suc i) q x h e f = fits_at qs xs i q x h.1 e f

at_end : (made rest : List Ask) (a : Ask) → slice_get ((made ++ a ∷ []) ++ rest) (length made) ≡ Some a
at_end [] rest a = refl
at_end (b ∷ made) rest a = at_end made rest a

abbrev head_or : {A : Type 0} → A → List A → A
head_or d [] = d
head_or d (x ∷ xs) = x

abbrev tail_of : {A : Type 0} → List A → List A
tail_of [] = []
tail_of (x ∷ xs) = xs

cons_nil : {A B : Type 0} (x : A) (r : List A) → x ∷ r ≡ [] → B
cons_nil x r e = absurd cc

dropped_head : {A : Type 0} (i : ℕ) (xs : List A) (x : A) (r : List A) → x ∷ r ≡ drop i xs → (slice_get xs i ≡ Some x) × (r ≡ drop (suc i) xs)
dropped_head zero [] x r e = cons_nil x r e
dropped_head zero (y ∷ xs) x r e = (ap (λ l. Some (head_or x l)) (sym e), ap tail_of e)
dropped_head (suc i) [] x r e = cons_nil x r e
dropped_head (suc i) (y ∷ xs) x r e = dropped_head i xs x r e

module _ (code : CodeTree) (sound : IsCode code) (guarded : IsGuarded code) (private_keep : PrivateTurnsKeep code) (answers_keep : AnswersKeep code) (all : List Answer) (qs : List Asked) (fit : AllFit qs all) (wanted : (i : ℕ) (q : Asked) → slice_get qs i ≡ Some q → IsWanted q) where
  abbrev pub meant : List Ask
  meant = map (λ q. q.ask) qs

  -- the answers to come are those after as many as there were asks
  abbrev pub Remains : Lone → Type 0
  Remains (runs th xs made w) = xs ≡ drop (length made) all
  Remains (waits made w) = Unit {0}

  pub record Fine (s : Lone) : Type 0 where
    pub described : IsDescribedAlone code s
    pub remains : Remains s

  -- the next answer is of the form of the ask, if the ask is meant
  next_fits : (made : List Ask) (a : Ask) (x : Answer) (xs : List Answer) → AreFirst (made ++ a ∷ []) meant → x ∷ xs ≡ drop (length made) all → Answers a x
  next_fits made a x xs first e =
      let i = length made in
      let there = sym (slice_get-map (λ q. q.ask) qs i) ∙ ap (λ l. slice_get l i) first.1 ∙ at_end made first.0 a in
      let q = map_some (λ (q : Asked). q.ask) (slice_get qs i) a there in
      let got = dropped_head i all x xs e in
      subst (λ b. Answers b x) q.2 (answers_by q.0 x (wanted i q.0 q.1) (fits_at qs all i q.0 x fit q.1 got.0))

  abbrev thread : List Context → Option Outcome → Thread
  thread cs res = record { contexts = cs; result = res }

  done_fine : (c : Context) (rest : List Context) (res : Option Outcome) (xs : List Answer) (made : List Ask) (old w : ℕ) (nx : Next) → next_of code c ≡ nx → AllByRecursion (IsDescribedContext code) (c ∷ rest) → xs ≡ drop (length made) all → AreFirst (asks_in (done code (thread (c ∷ rest) res) c rest xs made old w nx)) meant → Fine (done code (thread (c ∷ rest) res) c rest xs made old w nx)
  done_fine c rest res xs made old w (goes i) e h r first = record { described = (private_keep sound guarded c i h.0 e, h.1); remains = r }
  done_fine c rest res [] made old w (asks a after) e h r first = record { described = tt; remains = tt }
  done_fine c rest res (x ∷ xs) made old w (asks a after) e h r first =
      let one : length (made ++ a ∷ []) ≡ length made + 1 = length-append made (a ∷ []) in
      let long : suc (length made) ≡ length (made ++ a ∷ []) = omega (arith, one) in
      record {
        described = answers_keep sound guarded (thread (c ∷ rest) res) c rest after a x h refl e (next_fits made a x xs first r);
        remains = (dropped_head (length made) all x xs r).1 ∙ ap (λ n. drop n all) long;
      }
  done_fine c rest res xs made old w stuck e h r first = record { described = h; remains = r }

  turn_fine : (cs : List Context) (res : Option Outcome) (xs : List Answer) (made : List Ask) (w : ℕ) → AllByRecursion (IsDescribedContext code) cs → xs ≡ drop (length made) all → AreFirst (asks_in (turn_of code (thread cs res) cs xs made w)) meant → Fine (turn_of code (thread cs res) cs xs made w)
  turn_fine [] res xs made w h r first = record { described = h; remains = r }
  turn_fine (c ∷ rest) res xs made w h r first = done_fine c rest res xs made w (w + work_of code c) (next_of code c) refl h r first

  -- a turn keeps it, where the asks are still meant
  pub fine_on : (s : Lone) → Fine s → AreFirst (asks_in (turn code s)) meant → Fine (turn code s)
  fine_on (runs th xs made w) h first = turn_fine th.contexts th.result xs made w h.described h.remains first
  fine_on (waits made w) h first = record { described = tt; remains = tt }
