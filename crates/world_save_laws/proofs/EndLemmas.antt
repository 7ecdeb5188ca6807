-- Each turn keeps files and directories small, and so does every run; they are sound and a forest too.
use Rattle.std.proofs.Common.{◌≡◌, ℕ, List, [], ◌∷◌, Option, Some, None, refl, subst}
use Rattle.lam_bytecode.specs.Codes.{CodeTree}
use Rattle.thread_steps.specs.Threads.{Context, Thread}
use Rattle.thread_steps.specs.Next.{Next, goes, asks, stuck, next_of, takes}
use Rattle.lam_machine_terms.specs.Worlds.{World, with_thread}
use Rattle.lam_machine_terms.specs.Serves.{Effect, adds_file, adds_dir, removes, appends, cuts, effect_of}
use Rattle.lam_machine_terms.specs.Serving.{serve}
use Rattle.lam_machine_terms.specs.Turns.{is_ready, Moment, goes_on, served, turn_by, step, and_then, moments, left_by}
use Rattle.lam_machine_terms.specs.Valid.{IsValid}
use Rattle.lam_machine_laws.proofs.ThreadLemmas.{some_inj}
use Rattle.lam_machine_laws.proofs.TurnLemmas.{acts, only}
use Rattle.lam_machine_valid.proofs.WholeLemmas.{stay_valid}
use Rattle.world_forest.specs.Forest.{IsForest}
use Rattle.world_forest_laws.proofs.StepLemmas.{steps_keep}
use Rattle.world_save_laws.specs.TreeLaws.{IsWhole}
use Rattle.world_save_laws.specs.EndLaws.{IsSmall, EndsAreWhole}
use Rattle.world_save_laws.proofs.SmallLemmas.{small_file, small_dir, small_without, small_more, small_first}

effect_small : (code : CodeTree) (t : ℕ) (e : Effect) (w : World) → IsSmall w.files → IsSmall (effect_of code t e w).files
effect_small code t (adds_file d text home) w s = small_file w.files d text home s
effect_small code t (adds_dir d text home) w s = small_dir w.files d text home s
effect_small code t (removes d text) w s = small_without w.files d text s
effect_small code t (appends n bytes) w s = small_more w.files n bytes s
effect_small code t (cuts n len) w s = small_first w.files n len s
effect_small code t e w s = s

next_small : (code : CodeTree) (w : World) (t : ℕ) (th : Thread) (c : Context) (rest : List Context) (nx : Next) (m : Moment) → IsSmall w.files → turn_by code w t th c rest nx ≡ Some m → IsSmall m.world.files
next_small code w t th c rest (goes i) m s h = subst (λ (n : Moment). IsSmall n.world.files) (some_inj (goes_on w t th c rest i) m h) s
next_small code w t th c rest (asks a i) m s h =
    let d = serve w c a in
    let to = takes code th c rest i a d.answer in
    subst (λ (n : Moment). IsSmall n.world.files) (only (is_ready w t c a) (served code w t th c rest a i d) m h).1 (effect_small code t d.effect (with_thread w t to) s)
next_small code w t th c rest stuck m s h = absurd cc

step_small : (code : CodeTree) (w : World) (t : ℕ) (m : Moment) → IsSmall w.files → step code w t ≡ Some m → IsSmall m.world.files
step_small code w t m s h = let a = acts code w t m h in next_small code w t a.thread a.top a.rest (next_of code a.top) m s a.gives

pub ends_whole : (code : CodeTree) → EndsAreWhole code
ends_whole code is w [] valid f s = (record { sound = valid.sound.files; forest = f; root = valid.sound.root; few = s.few }, s)
ends_whole code is w (t ∷ ts) valid f s = by (step code w t) refl (λ v. ends_whole code is v ts)
  where
    by : (o : Option Moment) → step code w t ≡ o → ((v : World) → IsValid v → IsForest v.files → IsSmall v.files → IsWhole (left_by v (moments code ts v)).files × IsSmall (left_by v (moments code ts v)).files) → IsWhole (left_by w (and_then o (moments code ts))).files × IsSmall (left_by w (and_then o (moments code ts))).files
    by None e more = (record { sound = valid.sound.files; forest = f; root = valid.sound.root; few = s.few }, s)
    by (Some m) e more = more m.world (stay_valid code is w t m valid e) (steps_keep code w t m valid.sound f e) (step_small code w t m s e)
