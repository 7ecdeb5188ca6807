use Rattle.std.proofs.Common.{◌≡◌, ◌∙◌}
use Rattle.labelled_files.specs.Seen.{dirs_of, files_of}
use Rattle.labelled_files.proofs.TreeLemmas.{made_so}
use Rattle.labelled_files.proofs.files.Files.copy.Goals as goal

pub returns : goal.returns
returns c =
    let counters = made_so c.in_ok-counters.ensures.0 (λ p. p.0 ≡ c.self.inside.counters) c.copied_ground.ensures.counters in
    let root = made_so c.in_ok-counters.ensures.0 (λ p. p.1 ≡ c.self.inside.root) c.copied_ground.ensures.root in
    let dirs = made_so c.in_ok-counters.ensures.1 (λ p. dirs_of p.0.entries ≡ dirs_of c.self.inside.dirs.entries) c.copied_things.ensures.dirs in
    let files = made_so c.in_ok-counters.ensures.1 (λ p. files_of p.1.entries ≡ files_of c.self.inside.files.entries) c.copied_things.ensures.files in
    (λ i. record { dirs = dirs i; files = files i; counts = counters i; root = root i })
    ∙ c.self.view_is
