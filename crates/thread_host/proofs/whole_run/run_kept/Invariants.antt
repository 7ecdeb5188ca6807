use Rattle.thread_host.proofs.whole_run.run_kept.Given as goal

-- the origin is what was handed in
abbrev pub ghosts-by_workers : goal.ghosts-by_workers
ghosts-by_workers g a = record { code = a.code.now; start = a.start.now; budget = a.budget; AreKept = g.K.Keeps.AreKept a.who.now }
