-- What becomes of the files and directories at the end of a run: the document of the next run's world, which is written.
use Rattle.std.specs.Prelude.{◌≡◌, ℕ, false, List, [], ◌∷◌, ◌++◌, Some, codes, decimal, refl}
use Rattle.serde_json.specs.Data.{Data}
use Rattle.serde_json.specs.Written.{has_float}
use Rattle.lam_io.specs.Outside.{Files}
use Rattle.capabilities.specs.declared.Caps.{Caps}
use Rattle.labelled_files.specs.Trees.{Tree}
use Rattle.lam_bytecode.specs.Codes.{CodeTree}
use Rattle.lam_machine_terms.specs.Worlds.{World}
use Rattle.lam_machine_terms.specs.Turns.{replay}
use Rattle.world_doc_terms.specs.Start.{start_of}
use Rattle.world_save_files.specs.Saved.{HasKept, IsSavedText, IsSaveFault}
use Rattle.world_save_files.specs.declared.document.SaveFault.TheVariants as fault
use Rattle.lam_main_words.specs.Words.{Text}
use Rattle.lam_main_plan.specs.declared.Status.TheVariants.{Done}
use Rattle.lam_main_plan.specs.Refusals.{Plan, line, unnamed_tag, bad_text, too_big}
use Rattle.lam_main_plan.specs.Reading.{WithFile, Thins, world_limit}
use Rattle.lam_main_plan.specs.Replays.{RunFiles, ByWorld}
use Rattle.lam_main_plan.specs.Books.{WithRun}

-- the line of so many items
abbrev pub saved_line : ℕ → Text
saved_line items = line (codes "saved " ∷ decimal items ∷ [])

-- a text of so many items is written, and their number is told
abbrev pub saves_text : Text → Text → ℕ → Plan
saves_text out text items = record { status = Done; text = saved_line items; writes = Some (out, text) }

-- The plan of files and directories, with the tags of a run's start and the document that it began with. The digits of a
-- number that is no whole one are those that the writer gives it, so of such a document there can be several texts. All have one
-- length.
pub data IsOfFiles (out : Text) (old : Text) (names : List Text) (public : Caps) (t : Tree) (plan : Plan) : Type 0 where
  saved : (text : Text) (items : ℕ) → IsSavedText names public t old text items → plan ≡ saves_text out text items → IsOfFiles out old names public t plan
  unnamed : (tag : ℕ) → IsSaveFault names public t old (fault.Unnamed tag) → plan ≡ unnamed_tag tag → IsOfFiles out old names public t plan
  untold : (item : ℕ) → IsSaveFault names public t old (fault.BadText item) → plan ≡ bad_text item → IsOfFiles out old names public t plan
  too_long : (bytes : ℕ) → IsSaveFault names public t old (fault.TooBig bytes) → plan ≡ too_big bytes → IsOfFiles out old names public t plan

-- what the next document takes from a document has no number but whole ones of 64 bits
abbrev pub TakesWholeNumbers : Text → Type 0
TakesWholeNumbers old = (pipes threads : Data) → HasKept old pipes threads → (has_float pipes ≡ false) × (has_float threads ≡ false)

-- the plan of the turns of a start, which this document describes
abbrev pub IsOfEnd : Text → CodeTree → Text → World → List ℕ → Plan → Type 0
IsOfEnd out code old start turns plan = IsOfFiles out old start.names start.public (replay code turns start).files plan

-- the plan of a code: the document of the start is read next, and then the book
abbrev pub SavesRun : Files → RunFiles → Text → CodeTree → Plan → Type 0
SavesRun files run out code plan =
    WithFile (files run.world) run.world world_limit (λ old. ByWorld (λ start. WithRun files run.book code start (IsOfEnd out code old start)) (start_of old code)) plan

-- the plan of the bytes of a program
abbrev pub Saves : Files → RunFiles → Text → Text → Plan → Type 0
Saves files run out bytes plan = Thins (SavesRun files run out) bytes plan

-- ---- worked examples
two_items : saved_line 2 ≡ codes "saved " ++ decimal 2 ++ codes "\n"
two_items = refl
