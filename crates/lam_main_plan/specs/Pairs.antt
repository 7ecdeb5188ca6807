-- Whether an observer may expect to see the same of two runs of a program, and if not, in what they differ first.
use Rattle.std.specs.Prelude.{◌≡◌, ℕ, List, [], ◌∷◌, codes, decimal, refl}
use Rattle.flow_labels.specs.LabelText.{label_of}
use Rattle.flow_labels.specs.declared.Label.{Label}
use Rattle.lam_io.specs.Outside.{Files}
use Rattle.lam_bytecode.specs.Codes.{CodeTree}
use Rattle.lam_machine_terms.specs.Worlds.{World}
use Rattle.lam_machine_terms.specs.Turns.{moments}
use Rattle.pair_check_terms.specs.Pairs.{IsPaired}
use Rattle.pair_check_terms.specs.declared.answer.Part.{Part}
use Rattle.pair_check_terms.specs.declared.answer.Part.TheVariants.{Tags, Public, Heap, Files as FilesPart, Pipes, Counters, Threads}
use Rattle.pair_check_terms.specs.declared.answer.PairAnswer.{PairAnswer}
use Rattle.pair_check_terms.specs.declared.answer.PairAnswer.TheVariants.{WorldsDiffer, TurnsDiffer, ReleaseDiffers, Agree}
use Rattle.lam_main_words.specs.Words.{Text}
use Rattle.lam_main_plan.specs.Refusals.{Plan, prints, line}
use Rattle.lam_main_plan.specs.Reading.{Thins}
use Rattle.lam_main_plan.specs.Replays.{RunFiles}
use Rattle.lam_main_plan.specs.Books.{WithStart, WithRun, ByLabel}

-- a part of a world by its name
abbrev pub part_name : Part → Text
part_name Tags = codes "Tags"
part_name Public = codes "Public"
part_name Heap = codes "Heap"
part_name FilesPart = codes "Files"
part_name Pipes = codes "Pipes"
part_name Counters = codes "Counters"
part_name Threads = codes "Threads"

-- the line of an answer
abbrev pub pair_line : PairAnswer → Text
pair_line (WorldsDiffer what) = line (codes "worlds differ " ∷ part_name what ∷ [])
pair_line (TurnsDiffer n) = line (codes "turns differ " ∷ decimal n ∷ [])
pair_line (ReleaseDiffers n) = line (codes "releases differ " ∷ decimal n ∷ [])
pair_line (Agree n) = line (codes "agree " ∷ decimal n ∷ [])

-- the plan of two runs of a code: the line of what is to be said of them
pub record IsOfPair (code : CodeTree) (o : Label) (s : World) (turns : List ℕ) (s' : World) (turns' : List ℕ) (plan : Plan) : Type 0 where
  pub answer : PairAnswer
  pub paired : IsPaired o s (moments code turns s) s' (moments code turns' s') answer
  pub is : plan ≡ prints (pair_line answer)

-- the plan of the second run, once the first is read
abbrev pub PairsWith : Files → RunFiles → CodeTree → Label → World → List ℕ → Plan → Type 0
PairsWith files second code o s turns plan =
    WithStart files second.world code (λ s'. WithRun files second.book code s' (λ turns'. IsOfPair code o s turns s' turns')) plan

-- the plan of a code: the first run is read whole before the second; the observer's label is by the tags of the first
abbrev pub PairsRuns : Files → RunFiles → RunFiles → ℕ → Text → CodeTree → Plan → Type 0
PairsRuns files first second index label code plan =
    WithStart files first.world code (λ s. ByLabel index (λ o. WithRun files first.book code s (PairsWith files second code o s)) (label_of s.names label)) plan

-- the plan of the bytes of a program
abbrev pub Pairs : Files → RunFiles → RunFiles → ℕ → Text → Text → Plan → Type 0
Pairs files first second index label bytes plan = Thins (PairsRuns files first second index label) bytes plan

-- ---- worked examples
threads_line : pair_line (WorldsDiffer Threads) ≡ codes "worlds differ Threads\n"
threads_line = refl
