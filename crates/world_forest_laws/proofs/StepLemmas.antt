-- Each effect of a turn keeps a forest, and so does every turn of every run.
use Rattle.std.proofs.Common.{◌≡◌, ℕ, Bool, true, false, List, [], ◌∷◌, Option, Some, None, refl, subst}
use Rattle.std.specs.Prelude.{take}
use Rattle.std.specs.List.{AllByRecursion}
use Rattle.labelled_files.specs.Trees.{IsSound, appended}
use Rattle.lam_bytecode.specs.Codes.{CodeTree, IsCode}
use Rattle.thread_steps.specs.Threads.{Context, Thread}
use Rattle.thread_steps.specs.Next.{Next, goes, asks, stuck, next_of, takes}
use Rattle.lam_machine_terms.specs.Worlds.{World, with_thread}
use Rattle.lam_machine_terms.specs.Serves.{Effect, adds_file, adds_dir, removes, appends, cuts, nothing, takes_tag, sets_slot, adds_thing, adds_copy, takes_monitor, gives_back, drops, adds_pipe, sends, receives, adds_thread, effect_of}
use Rattle.lam_machine_terms.specs.Serving.{serve}
use Rattle.lam_machine_terms.specs.Turns.{is_ready, Moment, goes_on, served, turn_by, step, and_then, moments, left_by}
use Rattle.lam_machine_terms.specs.Valid.{AreSoundStores, IsValid}
use Rattle.lam_machine_laws.proofs.ThreadLemmas.{some_inj}
use Rattle.lam_machine_laws.proofs.TurnLemmas.{acts, only}
use Rattle.lam_machine_valid.proofs.WholeLemmas.{stay_valid}
use Rattle.world_forest.specs.Forest.{IsForest}
use Rattle.world_forest_laws.specs.Laws.{StepsKeepForests, RunsKeepForests}
use Rattle.world_forest.proofs.ForestLemmas.{forest_file, forest_dir, forest_without, forest_bytes}

effect_keeps : (code : CodeTree) (t : ℕ) (e : Effect) (w : World) → IsSound w.files → IsForest w.files → IsForest (effect_of code t e w).files
effect_keeps code t (adds_file d text home) w s f = forest_file w.files d text home s f
effect_keeps code t (adds_dir d text home) w s f = forest_dir w.files d text home s f
effect_keeps code t (removes d text) w s f = forest_without w.files d text f
effect_keeps code t (appends n bytes) w s f = forest_bytes w.files n (appended bytes) f
effect_keeps code t (cuts n len) w s f = forest_bytes w.files n (take len) f
effect_keeps code t e w s f = f

next_keeps : (code : CodeTree) (w : World) (t : ℕ) (th : Thread) (c : Context) (rest : List Context) (nx : Next) (m : Moment) → AreSoundStores w → IsForest w.files → turn_by code w t th c rest nx ≡ Some m → IsForest m.world.files
next_keeps code w t th c rest (goes i) m s f h = subst (λ (n : Moment). IsForest n.world.files) (some_inj (goes_on w t th c rest i) m h) f
next_keeps code w t th c rest (asks a i) m s f h =
    let d = serve w c a in
    let to = takes code th c rest i a d.answer in
    subst (λ (n : Moment). IsForest n.world.files) (only (is_ready w t c a) (served code w t th c rest a i d) m h).1
    (effect_keeps code t d.effect (with_thread w t to) s.files f)
next_keeps code w t th c rest stuck m s f h = absurd cc

pub steps_keep : (code : CodeTree) → StepsKeepForests code
steps_keep code w t m s f h =
    let a = acts code w t m h in
    next_keeps code w t a.thread a.top a.rest (next_of code a.top) m s f a.gives

pub runs_keep : (code : CodeTree) → RunsKeepForests code
runs_keep code is w [] valid f = (tt, f)
runs_keep code is w (t ∷ ts) valid f = by (step code w t) refl (λ v. runs_keep code is v ts)
  where
    by : (o : Option Moment) → step code w t ≡ o → ((v : World) → IsValid v → IsForest v.files → AllByRecursion (λ (m : Moment). IsForest m.world.files) (moments code ts v) × IsForest (left_by v (moments code ts v)).files) → AllByRecursion (λ (m : Moment). IsForest m.world.files) (and_then o (moments code ts)) × IsForest (left_by w (and_then o (moments code ts))).files
    by None e more = (tt, f)
    by (Some m) e more =
        let v = stay_valid code is w t m valid e in
        let g = steps_keep code w t m valid.sound f e in
        let r = more m.world v g in
        ((g, r.0), r.1)
