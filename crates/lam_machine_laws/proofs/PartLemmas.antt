-- The step of a thread, and the world after an effect, by their parts.
use Rattle.std.proofs.Common.{◌≡◌, ℕ, true, List, ◌++◌, Some, None, refl, sym, ap, ◌∙◌, append-nil}
use Rattle.std.specs.Prelude.{slice_set, if◌then◌else◌}
use Rattle.lam_machine_effects.specs.Ask.{Ask}
use Rattle.lam_machine_effects.specs.Answer.{Answer}
use Rattle.lam_machine_effects.specs.What.TheVariants.{Private, Asked}
use Rattle.lam_machine_effects.specs.Codes.{CodeTree}
use Rattle.lam_machine_effects.specs.Threads.{Inside, Context, Thread}
use Rattle.lam_machine_effects.specs.Next.{Next, next_of, goes, asks, takes}
use Rattle.lam_machine_effects.specs.Worlds.{World, with_thread}
use Rattle.lam_machine_effects.specs.Serves.{effect_of}
use Rattle.lam_machine_effects.specs.Serving.{serve}
use Rattle.lam_machine_effects.specs.Turns.{Moment, is_ready, served, turn_by, turn_on, turn_in, step}
use Rattle.lam_machine_effects.specs.declared.stores.Stores.{Stores}
use Rattle.lam_machine_effects.specs.Parts.{stores_of, world_of}
use Rattle.lam_machine_effects.specs.declared.effect.Effect.{Effect}
use Rattle.lam_machine_effects.specs.declared.effect.Effect.TheVariants.{AddsThread}
use Rattle.lam_machine_effects.specs.declared.served.Served.{Served}
use Rattle.lam_machine_effects.specs.Meaning.{meaning, DoesAs, IsAfter}
use Rattle.lam_machine_laws.specs.Turned.{IsTurn, Acts, born, gone_on}

step_by : (code : CodeTree) (w : World) (t : ℕ) (th : Thread) (c : Context) (rest : List Context) (n : Next) → Acts w t th c rest → next_of code c ≡ n → step code w t ≡ turn_by code w t th c rest n
unfolding step
step_by code w t th c rest n acts e =
    ap (λ x. turn_in code w t x) acts.at ∙ ap (λ cs. turn_on code w t th cs) acts.list ∙ ap (λ x. turn_by code w t th c rest x) e

pub private_parts : (code : CodeTree) (w : World) (t : ℕ) (th : Thread) (c : Context) (rest : List Context) (i : Inside) → Acts w t th c rest → next_of code c ≡ goes i → IsTurn code t w (record { label = c.label; thread = t; what = Private }) (with_thread w t (gone_on th c rest i))
private_parts code w t th c rest i acts e = record { made = None; is = step_by code w t th c rest (goes i) acts e }

-- the threads after an effect
threads_after : (code : CodeTree) (t : ℕ) (e : Effect) (w : World) → (effect_of code t (meaning e) w).threads ≡ w.threads ++ born code e
threads_after code t (AddsThread unit args caps) w = refl
threads_after code t e w = sym (append-nil w.threads)

world_after : (code : CodeTree) (t : ℕ) (e : Effect) (s after : Stores) (threads : List Thread) → IsAfter t e s after → effect_of code t (meaning e) (world_of s threads) ≡ world_of after (threads ++ born code e)
world_after code t e s after threads is =
    let stores : stores_of (effect_of code t (meaning e) (world_of s threads)) ≡ after = is code threads in
    let list : (effect_of code t (meaning e) (world_of s threads)).threads ≡ threads ++ born code e = threads_after code t e (world_of s threads) in
    (λ j. world_of (stores j) (list j))

pub asked_parts : (code : CodeTree) (w : World) (t : ℕ) (th : Thread) (c : Context) (rest : List Context) (a : Ask) (i : Inside) (d : Served) (s : Stores) → Acts w t th c rest → next_of code c ≡ asks a i → is_ready w t c a ≡ true → DoesAs d (serve w c a) → IsAfter t d.effect (stores_of w) s → IsTurn code t w (record { label = c.label; thread = t; what = Asked a d.answer }) (world_of s (slice_set w.threads t (takes code th c rest i a d.answer) ++ born code d.effect))
asked_parts code w t th c rest a i d s acts e ready does after =
    let other = serve w c a in
    let answer : other.answer ≡ d.answer = sym does.answer in
    let effect : other.effect ≡ meaning d.effect = sym does.effect in
    let moment : Answer → World → Moment = λ x v. record { event = record { label = c.label; thread = t; what = Asked a x }; made = other.made; world = v } in
    let ready_step : step code w t ≡ Some (served code w t th c rest a i other) = step_by code w t th c rest (asks a i) acts e ∙ ap (λ b. if b then Some (served code w t th c rest a i other) else None) ready in
    let world : effect_of code t other.effect (with_thread w t (takes code th c rest i a other.answer)) ≡ world_of s (slice_set w.threads t (takes code th c rest i a d.answer) ++ born code d.effect) =
    (λ j. effect_of code t (effect j) (with_thread w t (takes code th c rest i a (answer j))))
    ∙ world_after code t d.effect (stores_of w) s (slice_set w.threads t (takes code th c rest i a d.answer)) after in
    record { made = other.made; is = ready_step ∙ (λ j. Some (moment (answer j) (world j))) }
