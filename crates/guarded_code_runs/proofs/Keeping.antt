-- Every turn keeps that all threads are described, and so does every run.
use Rattle.std.proofs.Common.{◌≡◌, ℕ, List, [], ◌∷◌, Option, Some, None, refl, sym, ap, ◌∙◌, subst, ⊎_elim}
use Rattle.std.specs.List.{AllByRecursion}
use Rattle.std.proofs.lemmas.Bool.{cases_eq}
use Rattle.lam_asks.specs.declared.answer.Answer.{Answer}
use Rattle.lam_asks.specs.declared.answer.Answer.TheVariants as answer
use Rattle.lam_asks.specs.declared.answer.What.{What}
use Rattle.lam_asks.specs.declared.answer.What.TheVariants.{Private, Asked}
use Rattle.lam_asks.specs.declared.ask.Ask.{Ask}
use Rattle.lam_asks.specs.declared.ask.Ask.TheVariants as ask
use Rattle.lam_asks.specs.Suits.{numbers}
use Rattle.lam_value.specs.declared.values.Value.TheVariants as value
use Rattle.lam_bytecode.specs.Codes.{CodeTree, IsCode}
use Rattle.thread_steps.specs.Threads.{Context, Thread}
use Rattle.thread_steps.specs.Next.{Next, goes, asks, stuck, next_of}
use Rattle.lam_machine_valid.specs.Worlds.{World, thread_at, contexts_in}
use Rattle.lam_machine_valid.specs.Serving.{serve}
use Rattle.lam_machine_valid.specs.Turns.{is_ready, Moment, goes_on, served, turn_by, step, and_then, moments, left_by, replay}
use Rattle.lam_machine_valid.specs.Own.{TurnsTo, IsSpawned, Touches}
use Rattle.lam_machine_valid.specs.LamMachineLawsLaws.{IsActing}
use Rattle.lam_machine_valid.proofs.ThreadLemmas.{some_inj}
use Rattle.lam_machine_valid.proofs.TurnLemmas.{acts, only}
use Rattle.lam_machine_valid.proofs.OwnLemmas.{touch}
use Rattle.lam_machine_valid.specs.Suiting.{Joined, with_value, forbidden, without_value, Suits}
use Rattle.lam_machine_valid.proofs.SuitLemmas.{all_suit}
use Rattle.guarded_code_threads.specs.Breaks.{IsGuarded}
use Rattle.guarded_code_threads.specs.Described.{IsDescribedContext, IsDescribed}
use Rattle.guarded_code_threads.specs.Answers.{Answers}
use Rattle.guarded_code_threads.specs.Laws.{TakesAll}
use Rattle.guarded_code_threads.proofs.Keeping.{starts_described, private_turns_keep, answers_keep}
use Rattle.guarded_code_threads.proofs.Spawning.{spawns_at_entries}
use Rattle.guarded_code_threads.proofs.Accessing.{accesses_find, no_second_test}
use Rattle.guarded_code_threads.proofs.Forms.{suits_form}
use Rattle.guarded_code_runs.specs.Worlds.{AreDescribed, IsAtEntry, AreAtEntries}
use Rattle.guarded_code_runs.specs.Laws.{EntriesAreDescribed, TurnsKeep, RunsKeep, AccessesFindInRuns, NoSecondTestInRuns}

-- ---- the answer of a turn is of the form of its ask

joined_form : (u : ℕ) (x : Answer) → Joined x → Answers (ask.Join u) x
joined_form u _ (with_value v) = tt
joined_form u _ (forbidden d) = tt
joined_form u _ without_value = tt

form : (a : Ask) (x : Answer) → Suits a x → Answers a x
form (ask.Read r at) x h = subst (λ y. Answers (ask.Read r at) y) (sym h.1) tt
form (ask.Join u) x h = joined_form u x h
form a x h = suits_form a x (h numbers)

same_asked : (a b : Ask) (x y : Answer) → Asked a x ≡ Asked b y → (a ≡ b) × (x ≡ y)
same_asked a b x y e = (cc, cc)

answer_form : (code : CodeTree) (w : World) (t : ℕ) (m : Moment) (a : Ask) (x : Answer) → step code w t ≡ Some m → m.event.what ≡ Asked a x → Answers a x
answer_form code w t m a x h e =
    let k = acts code w t m h in
    by k.thread k.top k.rest (next_of code k.top) refl k.gives
  where
    by : (th : Thread) (c : Context) (rest : List Context) (nx : Next) → next_of code c ≡ nx → turn_by code w t th c rest nx ≡ Some m → Answers a x
    by th c rest (goes i) f g = absurd (let same = ap (λ (n : Moment). n.event.what) (some_inj (goes_on w t th c rest i) m g) in let z : Private ≡ Asked a x = same ∙ e in cc)
    by th c rest (asks b i) f g =
        let made = served code w t th c rest b i (serve w c b) in
        let same = ap (λ (n : Moment). n.event.what) (only (is_ready w t c b) made m g).1 in
        let z = same_asked b a (serve w c b).answer x (same ∙ e) in
        subst (λ b. Answers b x) z.0 (subst (λ y. Answers b y) z.1 (form b (serve w c b).answer (all_suit code c b i f w)))
    by th c rest stuck f g = absurd cc

-- ---- one turn

module _ (code : CodeTree) (is : IsCode code) (guarded : IsGuarded code) where
  entry_described : (th : Thread) → IsAtEntry code th → IsDescribed code th
  entry_described th h = subst (IsDescribed code) (sym h.it) (starts_described code is guarded h.unit h.args h.caps h.takes)

  -- the acting thread
  own_described : (th : Thread) (c : Context) (rest : List Context) (what : What) (after : Thread) → IsDescribed code th → th.contexts ≡ c ∷ rest → ((a : Ask) (x : Answer) → what ≡ Asked a x → Answers a x) → TurnsTo code th c rest what after → IsDescribed code after
  own_described th c rest Private after h list form t =
      let all = subst (λ cs. AllByRecursion (IsDescribedContext code) cs) list h in
      subst (IsDescribed code) (sym t.2) (private_turns_keep code is guarded c t.0 all.0 t.1, all.1)
  own_described th c rest (Asked a x) after h list form t =
      subst (IsDescribed code) (sym t.2) (answers_keep code is guarded th c rest t.0 a x h list t.1 (form a x refl))

  -- one that was spawned
  spawn_takes : (th : Thread) (c : Context) (rest : List Context) (unit : ℕ) (args : List _) (caps : _) (x : Answer) (what : What) (after : Thread) → what ≡ Asked (ask.Spawn unit args caps) x → TurnsTo code th c rest what after → TakesAll code unit args
  spawn_takes th c rest unit args caps x what after e t =
      let u = subst (λ y. TurnsTo code th c rest y after) e t in
      spawns_at_entries code c u.0 unit args caps u.1

  spawned_described : (w : World) (t u : ℕ) (m : Moment) (k : Touches code w t m) (th : Thread) → IsSpawned code u m.event.what th → IsDescribed code th
  spawned_described w t u m k th s =
      entry_described th (record {
        unit = s.unit;
        args = s.args;
        caps = s.caps;
        it = s.it;
        takes = spawn_takes k.before k.own.top k.own.rest s.unit s.args s.caps (answer.Val (value.Thread u)) m.event.what k.after s.asked k.own.turns;
      })

  turn_keeps : (w : World) (t : ℕ) (m : Moment) → AreDescribed code w → step code w t ≡ Some m → AreDescribed code m.world
  turn_keeps w t m h e u th at =
      ⊎_elim
      (λ same.
      let now : k.after ≡ th = some_inj k.after th (sym k.then_at ∙ subst (λ n. thread_at m.world n ≡ Some th) same at) in
      subst (IsDescribed code) now
      (own_described k.before k.own.top k.own.rest m.event.what k.after (h t k.before k.at) k.own.list (λ a x f. answer_form code w t m a x e f) k.own.turns))
      (λ other. beside other (thread_at w u) refl)
      (cases_eq u t)
    where
      k : Touches code w t m
      k = touch code w t m e

      beside : (u ≡ t → ⊥) → (x : Option Thread) → thread_at w u ≡ x → IsDescribed code th
      beside other None f = spawned_described w t u m k th (k.new u th f at)
      beside other (Some b) f = subst (IsDescribed code) (some_inj b th (sym (k.others u b other f) ∙ at)) (h u b f)

  run_keeps : (w : World) (turns : List ℕ) → AreDescribed code w → AllByRecursion (λ (m : Moment). AreDescribed code m.world) (moments code turns w) × AreDescribed code (replay code turns w)
  run_keeps w [] h = (tt, h)
  run_keeps w (t ∷ ts) h = by (step code w t) refl (λ v. run_keeps v ts)
    where
      by : (o : Option Moment) → step code w t ≡ o → ((v : World) → AreDescribed code v → AllByRecursion (λ (m : Moment). AreDescribed code m.world) (moments code ts v) × AreDescribed code (left_by v (moments code ts v))) → AllByRecursion (λ (m : Moment). AreDescribed code m.world) (and_then o (moments code ts)) × AreDescribed code (left_by w (and_then o (moments code ts)))
      by None e more = (tt, h)
      by (Some m) e more = let v = turn_keeps w t m h e in let r = more m.world v in ((v, r.0), r.1)

  -- ---- the acting context of a thread after turns

  pub acting : (w : World) (t : ℕ) (c : Context) (rest : List Context) → AreDescribed code w → IsActing w t c rest → IsDescribedContext code c
  acting w t c rest h a = by (thread_at w t) refl a
    where
      by : (x : Option Thread) → thread_at w t ≡ x → contexts_in x ≡ c ∷ rest → IsDescribedContext code c
      by None e f = absurd cc
      by (Some th) e f = (subst (λ cs. AllByRecursion (IsDescribedContext code) cs) f (h t th e)).0

  entries : (w : World) → AreAtEntries code w → AreDescribed code w
  entries w h t th e = entry_described th (h t th e)

  after : (w : World) (turns : List ℕ) (t : ℕ) (c : Context) (rest : List Context) → AreAtEntries code w → IsActing (replay code turns w) t c rest → IsDescribedContext code c
  after w turns t c rest h a = acting (replay code turns w) t c rest (run_keeps w turns (entries w h)).1 a

pub entries_are_described : (code : CodeTree) → EntriesAreDescribed code
entries_are_described code is guarded w h = entries code is guarded w h

pub turns_keep : (code : CodeTree) → TurnsKeep code
turns_keep code is guarded w t m h e = turn_keeps code is guarded w t m h e

pub runs_keep : (code : CodeTree) → RunsKeep code
runs_keep code is guarded w turns h = run_keeps code is guarded w turns h

pub accesses_find_in_runs : (code : CodeTree) → AccessesFindInRuns code
accesses_find_in_runs code is guarded w turns h t c rest op a s = accesses_find code guarded c op (after code is guarded w turns t c rest h a) s

pub no_second_test_in_runs : (code : CodeTree) → NoSecondTestInRuns code
no_second_test_in_runs code is guarded w turns h t c rest op a s access = no_second_test code guarded c op (after code is guarded w turns t c rest h a) s access
