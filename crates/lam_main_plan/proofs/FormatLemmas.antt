-- what `format` prints is read as the same program
use Rattle.std.proofs.Common.{List, Result, ℕ, refl, sym, subst}
use Rattle.lam_io.specs.Outside.{Files}
use Rattle.lam_syntax.specs.Tree.{ProgramTree}
use Rattle.lam_print.specs.Canon.{canon}
use Rattle.lam_print_laws.specs.Words.{ReadAgain}
use Rattle.lam_print_laws.specs.Law.{WayRound, Steady}
use Rattle.lam_main_words.specs.Words.{Text, Request}
use Rattle.lam_main_plan.specs.Refusals.{prints}
use Rattle.lam_main_plan.specs.Reading.{of_file}
use Rattle.lam_main_plan.specs.Plan.{IsPlan, IsPlanOf, canonical, IsFormatted, IsReadAgain, FormatIsSteady}

pub planned : (ws : List Text) (files : Files) (p : ProgramTree) → IsFormatted ws files p → IsPlan ws files (prints (canon p))
planned ws files p f =
    subst (λ (r : Result Request ℕ). IsPlanOf r files (prints (canon p))) (sym f.asks)
    (of_file (record { bytes = f.bytes; there = f.found; short = f.short; follows = canonical p f.spelt refl }))

again : (ws : List Text) (files : Files) (p : ProgramTree) → ReadAgain → WayRound → Steady → IsFormatted ws files p → IsReadAgain (canon p) p
again ws files p read round steady f =
    let x = read f.bytes f.spelt.tokens p f.spelt.is in
    record {
      tokens = x.0;
      lexed = x.1;
      again = λ none. let y = round f.bytes f.spelt.tokens p f.spelt.is x.0 x.1 none in (y.tree, y.spelt, y.same, steady p y.tree y.same);
    }

pub steady_of : (ws : List Text) (files : Files) → ReadAgain → WayRound → Steady → FormatIsSteady ws files
steady_of ws files read round steady p f = (planned ws files p f, again ws files p read round steady f)
