-- Worlds from which runs are sound: how one comes about, what turns and runs keep of it, and what accesses find in it.
use Rattle.std.proofs.Common.{◌≡◌, ℕ, List, [], ◌∷◌, Option, Some, None, refl}
use Rattle.std.specs.List.{AllByRecursion}
use Rattle.lam_bytecode.specs.Codes.{CodeTree, IsCode}
use Rattle.lam_bytecode.specs.declared.op.Op.{Op}
use Rattle.thread_steps.specs.Threads.{Context}
use Rattle.lam_machine_valid.specs.Worlds.{World}
use Rattle.lam_machine_valid.specs.Turns.{Moment, step, and_then, moments, left_by, replay}
use Rattle.lam_machine_valid.specs.Valid.{IsValid}
use Rattle.lam_machine_valid.specs.LamMachineLawsLaws.{IsActing}
use Rattle.lam_machine_valid.proofs.WholeLemmas.{stay_valid}
use Rattle.guarded_code_threads.specs.Breaks.{IsGuarded}
use Rattle.guarded_code_threads.specs.Accesses.{StandsAt, Finds}
use Rattle.guarded_code_threads.proofs.Accessing.{accesses_find}
use Rattle.guarded_code_runs.specs.Worlds.{AreAtEntries, IsSound}
use Rattle.guarded_code_runs.specs.Laws.{RunsKeepSound}
use Rattle.guarded_code_runs.proofs.Keeping.{acting, entries_are_described, turns_keep}

pub sound_entries : (code : CodeTree) (w : World) → IsCode code → IsGuarded code → IsValid w → AreAtEntries code w → IsSound code w
sound_entries code w is guarded valid h = record { code = is; guarded = guarded; valid = valid; described = entries_are_described code is guarded w h }

pub sound_step : (code : CodeTree) (w : World) (t : ℕ) (m : Moment) → IsSound code w → step code w t ≡ Some m → IsSound code m.world
sound_step code w t m h e =
    record {
      code = h.code;
      guarded = h.guarded;
      valid = stay_valid code h.code w t m h.valid e;
      described = turns_keep code h.code h.guarded w t m h.described e;
    }

pub runs_keep_sound : (code : CodeTree) → RunsKeepSound code
runs_keep_sound code w [] h = (tt, h)
runs_keep_sound code w (t ∷ ts) h = by (step code w t) refl (λ v. runs_keep_sound code v ts)
  where
    by : (o : Option Moment) → step code w t ≡ o → ((v : World) → IsSound code v → AllByRecursion (λ (m : Moment). IsSound code m.world) (moments code ts v) × IsSound code (left_by v (moments code ts v))) → AllByRecursion (λ (m : Moment). IsSound code m.world) (and_then o (moments code ts)) × IsSound code (left_by w (and_then o (moments code ts)))
    by None e more = (tt, h)
    by (Some m) e more = let v = sound_step code w t m h e in let r = more m.world v in ((v, r.0), r.1)

pub sound_moments : (code : CodeTree) (w : World) (turns : List ℕ) → IsSound code w → AllByRecursion (λ (m : Moment). IsSound code m.world) (moments code turns w)
sound_moments code w turns h = (runs_keep_sound code w turns h).0

pub sound_replay : (code : CodeTree) (w : World) (turns : List ℕ) → IsSound code w → IsSound code (replay code turns w)
sound_replay code w turns h = (runs_keep_sound code w turns h).1

pub sound_finds : (code : CodeTree) (w : World) → IsSound code w → (t : ℕ) (c : Context) (rest : List Context) (op : Op) → IsActing w t c rest → StandsAt code c op → Finds c.label op c.inside.frame.stack
sound_finds code w h t c rest op a s = accesses_find code h.guarded c op (acting code h.code h.guarded w t c rest h.described a) s
