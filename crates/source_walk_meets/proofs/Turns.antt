-- One turn: it is of a thread that is there, and a thread is started exactly where a spawn is answered with its number.
use Rattle.std.proofs.Common.{◌≡◌, ℕ, ◌+◌, ◌<◌, List, [], ◌∷◌, length, Some, refl, sym, ap, ◌∙◌, subst, arith, length-append}
use Rattle.std.specs.Option.{option_to_list}
use Rattle.std.proofs.lemmas.Option.{slice_get_within}
use Rattle.std.proofs.lemmas.List.{append-nil}
use Rattle.flow_labels.specs.declared.Denied.{Denied}
use Rattle.lam_asks.specs.declared.fault.Fault.{Fault}
use Rattle.lam_asks.specs.declared.answer.Answer.TheVariants.{Refused, Failed}
use Rattle.lam_asks.specs.declared.ask.Ask.{Ask}
use Rattle.lam_asks.specs.declared.ask.Ask.TheVariants.{Spawn}
use Rattle.lam_bytecode.specs.Codes.{CodeTree, AreCounted}
use Rattle.thread_steps.specs.Threads.{Inside, Context, Thread}
use Rattle.thread_steps.specs.Next.{Next, goes, asks, stuck, next_of, with_inside, started, takes}
use Rattle.lam_machine_terms.specs.Worlds.{World, thread_at, with_thread}
use Rattle.lam_machine_terms.specs.Serves.{Effect, adds_thread, effect_of, Served, answers}
use Rattle.lam_machine_terms.specs.Serving.{served_by, publicly, serve}
use Rattle.lam_machine_terms.specs.Turns.{is_ready, Moment, goes_on, served, turn_by, step}
use Rattle.lam_machine_laws.specs.Judged.{deed_by}
use Rattle.lam_machine_laws.proofs.ThreadLemmas.{some_inj, length-set}
use Rattle.lam_machine_laws.proofs.JudgedLemmas.{judged_by}
use Rattle.lam_machine_laws.proofs.TurnLemmas.{acts, only}
use Rattle.source_walk_meets.specs.Births.{Birth, birth_by, births, numbers}

-- ---- what an ask is served by

-- how many threads an effect adds
abbrev growth : Effect → ℕ
growth (adds_thread unit args caps) = 1
growth e = 0

abbrev born : Ask → Served → List Birth
born a d = option_to_list (birth_by a d.answer)

-- a thread is added exactly where the answer says so, and it has the number that it says
abbrev Bears : ℕ → Ask → Served → Type 0
Bears n a d = (growth d.effect ≡ length (born a d)) × AreCounted n (numbers (born a d))

refused_bears : (n : ℕ) (a : Ask) (x : Denied) → Bears n a (answers (Refused x))
refused_bears n (Spawn f vs k) x = (refl, tt)
refused_bears n a x = (refl, tt)

failed_bears : (n : ℕ) (a : Ask) (x : Fault) → Bears n a (answers (Failed x))
failed_bears n (Spawn f vs k) x = (refl, tt)
failed_bears n a x = (refl, tt)

done_bears : (w : World) (c : Context) (a : Ask) → Bears (length w.threads) a (deed_by w c a)
done_bears w c (Spawn f vs k) = (refl, (refl, tt))
done_bears w c a = (refl, tt)

row_bears : (w : World) (c : Context) (a : Ask) → Bears (length w.threads) a (served_by w c a)
row_bears w c a = judged_by (Bears (length w.threads) a) w c a (λ x e. refused_bears (length w.threads) a x) (λ f e g. failed_bears (length w.threads) a f) (λ e g. done_bears w c a)

-- ---- a turn

plus_none : (n : ℕ) → n ≡ n + 0
plus_none n = omega arith

effect_grows : (code : CodeTree) (t : ℕ) (e : Effect) (w : World) → length (effect_of code t e w).threads ≡ length w.threads + growth e
effect_grows code t (adds_thread unit args caps) w = length-append w.threads (started code unit args caps ∷ [])
effect_grows code t e w = plus_none (length w.threads)

-- a moment of a world, and its thread
pub record Turned (w : World) (m : Moment) : Type 0 where
  pub there : m.event.thread < length w.threads
  pub counted : AreCounted (length w.threads) (numbers (births (m ∷ [])))
  pub all : length m.world.threads ≡ length w.threads + length (births (m ∷ []))

module _ (code : CodeTree) (w : World) (t : ℕ) (th : Thread) (c : Context) (rest : List Context) (at : thread_at w t ≡ Some th) where
  there : t < length w.threads
  there = slice_get_within w.threads t th at

  went : (i : Inside) → Turned w (goes_on w t th c rest i)
  went i =
      record {
        there = there;
        counted = tt;
        all = length-set t w.threads (record { contexts = with_inside c i ∷ rest; result = th.result }) ∙ plus_none (length w.threads);
      }

  asked : (a : Ask) (i : Inside) → Turned w (served code w t th c rest a i (serve w c a))
  asked a i =
      let d = serve w c a in
      let to = takes code th c rest i a d.answer in
      let bears : Bears (length w.threads) a d = row_bears w (publicly w.public c) a in
      let one = append-nil (born a d) in
      record {
        there = there;
        counted = subst (λ bs. AreCounted (length w.threads) (numbers bs)) (sym one) bears.1;
        all = effect_grows code t d.effect (with_thread w t to) ∙ (λ j. length-set t w.threads to j + bears.0 j) ∙ ap (λ bs. length w.threads + length bs) (sym one);
      }

  next_turned : (nx : Next) (m : Moment) → turn_by code w t th c rest nx ≡ Some m → Turned w m
  next_turned (goes i) m h = subst (Turned w) (some_inj (goes_on w t th c rest i) m h) (went i)
  next_turned (asks a i) m h = subst (Turned w) (only (is_ready w t c a) (served code w t th c rest a i (serve w c a)) m h).1 (asked a i)
  next_turned stuck m h = absurd cc

pub turned : (code : CodeTree) (w : World) (t : ℕ) (m : Moment) → step code w t ≡ Some m → Turned w m
turned code w t m h =
    let a = acts code w t m h in
    next_turned code w t a.thread a.top a.rest a.at (next_of code a.top) m a.gives
