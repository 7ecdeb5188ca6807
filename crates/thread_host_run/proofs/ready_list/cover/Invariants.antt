use Rattle.std.proofs.Common.{◌≡◌, ◌≤◌, vec_len}
use Rattle.std.specs.Prelude.{vec_capacity}
use Rattle.thread_host_run.specs.Kept.{AreOld}
use Rattle.thread_host_run.proofs.ready_list.cover.Given as goal

abbrev pub invariant-loop-place : goal.invariant-loop-place
invariant-loop-place l = AreOld l.initial.prospects.items l.prospects.items × (vec_len l.prospects ≡ l.place) × (4096 ≤ vec_capacity l.prospects)
