-- A thread's own turns are those of a thread alone that gets the same answers.
use Rattle.std.proofs.Common.{◌≡◌, ℕ, suc, ◌+◌, List, [], ◌∷◌, ◌++◌, length, refl, sym, ap, ◌∙◌, subst, append_assoc}
use Rattle.std.proofs.lemmas.List.{append-nil}
use Rattle.lam_asks.specs.declared.answer.Answer.{Answer}
use Rattle.lam_asks.specs.declared.answer.What.{What}
use Rattle.lam_asks.specs.declared.answer.What.TheVariants.{Private, Asked}
use Rattle.lam_asks.specs.declared.ask.Ask.{Ask}
use Rattle.lam_bytecode.specs.Codes.{CodeTree}
use Rattle.thread_steps.specs.Threads.{Context, Thread}
use Rattle.thread_steps.specs.Next.{next_of}
use Rattle.lam_meaning_laws.specs.Lone.{runs, waits, work_of, done, turn_of, turn, turns}
use Rattle.lam_machine_valid.specs.Own.{OwnTurn, OwnTurns}
use Rattle.lam_machine_means.specs.Runs.{asked_in, answers_in}

pub even : (did : List What) → length (asked_in did) ≡ length (answers_in did)
even [] = refl
even (Private ∷ did) = even did
even (Asked a x ∷ did) = ap suc (even did)

pub answers_append : (did more : List What) → answers_in (did ++ more) ≡ answers_in did ++ answers_in more
answers_append [] more = refl
answers_append (Private ∷ did) more = answers_append did more
answers_append (Asked a x ∷ did) more = ap (λ l. x ∷ l) (answers_append did more)

first_answers : (what : What) (did : List What) (xs : List Answer) → answers_in (what ∷ did) ++ xs ≡ answers_in (what ∷ []) ++ (answers_in did ++ xs)
first_answers Private did xs = refl
first_answers (Asked a x) did xs = refl

first_asks : (what : What) (did : List What) → asked_in (what ∷ did) ≡ asked_in (what ∷ []) ++ asked_in did
first_asks Private did = refl
first_asks (Asked a x) did = refl

module _ (code : CodeTree) where
  -- the turn of a thread by its acting context
  acting : (th : Thread) (top : Context) (rest : List Context) (xs : List Answer) (made : List Ask) (w : ℕ) → th.contexts ≡ top ∷ rest → turn code (runs th xs made w) ≡ done code th top rest xs made w (w + work_of code top) (next_of code top)
  acting th top rest xs made w e = ap (λ cs. turn_of code th cs xs made w) e

  pub own_turn : (th after : Thread) (what : What) (xs : List Answer) (made : List Ask) (w : ℕ) → OwnTurn code th what after → (v : ℕ) × (turn code (runs th (answers_in (what ∷ []) ++ xs) made w) ≡ runs after xs (made ++ asked_in (what ∷ [])) v)
  own_turn th after Private xs made w o =
      let v = w + work_of code o.top in
      let t = o.turns in
      (v, acting th o.top o.rest xs made w o.list ∙ ap (done code th o.top o.rest xs made w v) t.1 ∙ ap (λ a. runs a xs made v) (sym t.2) ∙ ap (λ m. runs after xs m v) (sym (append-nil made)))
  own_turn th after (Asked a x) xs made w o =
      let v = w + work_of code o.top in
      let t = o.turns in
      (v, acting th o.top o.rest (x ∷ xs) made w o.list ∙ ap (done code th o.top o.rest (x ∷ xs) made w v) t.1 ∙ ap (λ b. runs b xs (made ++ a ∷ []) v) (sym t.2))

  -- where no answer is left, the ask is made
  pub last_turn : (th after : Thread) (a : Ask) (x : Answer) (made : List Ask) (w : ℕ) → OwnTurn code th (Asked a x) after → (v : ℕ) × (turn code (runs th [] made w) ≡ waits (made ++ a ∷ []) v)
  last_turn th after a x made w o =
      let v = w + work_of code o.top in
      (v, acting th o.top o.rest [] made w o.list ∙ ap (done code th o.top o.rest [] made w v) o.turns.1)

  pub own_turns : (th after : Thread) (did : List What) (xs : List Answer) (made : List Ask) (w : ℕ) → OwnTurns code th did after → (v : ℕ) × (turns code (length did) (runs th (answers_in did ++ xs) made w) ≡ runs after xs (made ++ asked_in did) v)
  own_turns th after [] xs made w o = (w, ap (λ a. runs a xs made w) o ∙ ap (λ m. runs after xs m w) (sym (append-nil made)))
  own_turns th after (what ∷ did) xs made w (next, one, more) =
      let a = own_turn th next what (answers_in did ++ xs) made w one in
      let b = own_turns next after did xs (made ++ asked_in (what ∷ [])) a.0 more in
      let first : turn code (runs th (answers_in (what ∷ did) ++ xs) made w) ≡ runs next (answers_in did ++ xs) (made ++ asked_in (what ∷ [])) a.0 = ap (λ l. turn code (runs th l made w)) (first_answers what did xs) ∙ a.1 in
      let all : (made ++ asked_in (what ∷ [])) ++ asked_in did ≡ made ++ asked_in (what ∷ did) = append_assoc made (asked_in (what ∷ [])) (asked_in did) ∙ ap (λ l. made ++ l) (sym (first_asks what did)) in
      (b.0, ap (turns code (length did)) first ∙ b.1 ∙ ap (λ m. runs after xs m b.0) all)

  -- one turn more
  pub own_more : (th between after : Thread) (did : List What) (what : What) → OwnTurns code th did between → OwnTurn code between what after → OwnTurns code th (did ++ what ∷ []) after
  own_more th between after [] what e o = (after, subst (λ t. OwnTurn code t what after) (sym e) o, refl)
  own_more th between after (d ∷ did) what (next, one, more) o = (next, one, own_more next between after did what more o)
