use Rattle.std.proofs.Common.{◌∙◌, ◌++◌, ◌∷◌, [], ap}
use Rattle.std.specs.Map.{lookup}
use Rattle.labelled_files.specs.Entries.{text_eq, entries_of}
use Rattle.labelled_files.proofs.EntryLemmas.{put_last}
use Rattle.labelled_files.proofs.directory.put_copy.Goals as goal

pub returns-clause-entries : goal.returns-clause-entries
returns-clause-entries c =
    put_last c.args.copy.now c.insert.new.self.entries c.in_ok-text.text c.in_ok-text.target c.in_ok-before.ensures.entries
    (ap (λ k. lookup (text_eq k) (entries_of c.args.copy.now.entries)) c.in_ok-text.ensures.text ∙ c.requires)
    ∙ (λ j. entries_of c.args.copy.now.entries ++ (c.in_ok-text.ensures.text j, c.in_ok-text.ensures.target j) ∷ [])
