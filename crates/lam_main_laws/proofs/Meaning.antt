-- What words and files ask for, and every program, runs as its source means.
use Rattle.std.proofs.Common.{◌≡◌, List, Option, Some, Ok, IsSomeAnd, sym, ap, ◌∙◌, subst}
use Rattle.lam_io.specs.Outside.{Files}
use Rattle.lam_main_words.specs.Words.{Text}
use Rattle.lam_syntax.specs.Tree.{ProgramTree}
use Rattle.lam_front.specs.Programs.{IsFine}
use Rattle.lam_front.proofs.Once.{one_fine}
use Rattle.lam_types.specs.Judgement.{IsTyped}
use Rattle.lam_types.proofs.Whole.{none_typed}
use Rattle.region_check.specs.Legal.{IsRegionLegal}
use Rattle.region_check.proofs.Outcome.{none_legal}
use Rattle.lam_resolve_tree.specs.Tree.{ResolvedTree}
use Rattle.lam_resolve_tree.specs.Typing.{IsTypedTree}
use Rattle.lam_resolve_tree.specs.Regions.{AreNumbered}
use Rattle.lam_resolve_tree.specs.Slots.{SlotsDiffer}
use Rattle.lam_resolve_laws.specs.Resolved.{resolved}
use Rattle.lam_resolve_laws.proofs.Laws.{resolves_typed, resolves_slots, resolves_regions}
use Rattle.lam_bytecode.specs.Codes.{CodeTree, IsCode}
use Rattle.lam_meaning.specs.Scheme.{scheme}
use Rattle.lam_meaning_laws.specs.Acts.{ActsAs}
use Rattle.compiled_code_guarded.specs.Compiled.{SchemeIsGuarded}
use Rattle.thinned_code.specs.Thinned.{thinned}
use Rattle.thinned_code.specs.Facts.{StaysCode}
use Rattle.thinned_code_acts.specs.Laws.{ThinnedSchemeActs}
use Rattle.world_save_laws.specs.Documents.{DocumentsRunAsMeant}
use Rattle.world_save_laws.specs.Entries.{EntriesAreFunctions, SchemeEntries, ThinnedEntries}
use Rattle.lam_main_laws.specs.Meant.{CallsRunAsMeant, MeansEverywhere, SourcesRunAsMeant}
use Rattle.barrier_compiler.specs.Compiled.{IsCompiledTo}
use Rattle.lam_main_plan.specs.Reading.{IsRunCode}
use Rattle.lam_main_laws.proofs.Counts.{small}
use Rattle.lam_main_laws.proofs.Given.{some_same}
use Rattle.lam_main_laws.proofs.Codes.{by_scheme, is_code}

-- what holds of that which a program resolves to
of_resolved : (p : ProgramTree) (r : ResolvedTree) (P : ResolvedTree → Type 0) → resolved p ≡ Some r → IsSomeAnd (resolved p) P → P r
of_resolved p r P e h = subst (λ (o : Option ResolvedTree). IsSomeAnd o P) e h

-- a code acts as a program and has its functions as entries
record Acts (r : ResolvedTree) (code : CodeTree) : Type 0 where
  acts : ActsAs code r
  entries : EntriesAreFunctions r code
  is_code : IsCode code

-- what a program compiles to is a code
pub whole_code : (bytes : Text) (p : ProgramTree) (whole : CodeTree) → IsFine bytes p → IsCompiledTo p (Ok whole) → IsCode whole
whole_code bytes p whole fine makes =
    let typed : IsTyped p = none_typed p fine.typed in
    let legal : IsRegionLegal p = none_legal p fine.legal in
    let r = makes.tree in
    let e : resolved p ≡ Some r = makes.resolves in
    let numbered : AreNumbered r = of_resolved p r (λ r. AreNumbered r) e (resolves_regions p typed legal) in
    let slots : SlotsDiffer r = of_resolved p r (λ r. SlotsDiffer r) e (resolves_slots p typed legal) in
    is_code r (small p r typed e) slots numbered whole makes.makes

-- and so is what is run of it
pub run_code : StaysCode → (bytes : Text) (code : CodeTree) → IsRunCode bytes code → IsCode code
run_code stays bytes code run = subst IsCode (sym run.thin) (stays run.whole (whole_code bytes run.makes.program run.whole run.makes.fine run.makes.makes))

module _ (guarded : SchemeIsGuarded) (acts : (r : ResolvedTree) → ThinnedSchemeActs r) (stays : StaysCode) (entries : (r : ResolvedTree) → SchemeEntries r) (thin_entries : (code : CodeTree) → ThinnedEntries code) where
  -- what is run of a program
  thinned_acts : (r : ResolvedTree) → IsTypedTree r → AreNumbered r → IsCode (scheme r) → Acts r (thinned (scheme r))
  thinned_acts r typed numbered is =
      record { acts = acts r typed numbered is (guarded r typed numbered); entries = thin_entries (scheme r) r (entries r); is_code = stays (scheme r) is }

  module _ (law : (r : ResolvedTree) (code : CodeTree) → DocumentsRunAsMeant r code) where
    -- what is run of a fine program acts as the program with its names resolved, so every run of it means that
    runs_everywhere : (bytes : Text) (p : ProgramTree) (whole code : CodeTree) → IsFine bytes p → (made : IsCompiledTo p (Ok whole)) → code ≡ thinned whole → MeansEverywhere made.tree code
    runs_everywhere bytes p whole code fine made thin text start starts =
        let typed : IsTyped p = none_typed p fine.typed in
        let legal : IsRegionLegal p = none_legal p fine.legal in
        let r = made.tree in
        let e : resolved p ≡ Some r = made.resolves in
        let numbered : AreNumbered r = of_resolved p r (λ r. AreNumbered r) e (resolves_regions p typed legal) in
        let typed_tree : IsTypedTree r = of_resolved p r (λ r. IsTypedTree r) e (resolves_typed p typed legal) in
        let same : scheme r ≡ whole = by_scheme r whole made.makes in
        let whole_is : IsCode whole = whole_code bytes p whole fine made in
        let run = subst (Acts r) (ap thinned same ∙ sym thin) (thinned_acts r typed_tree numbered (subst IsCode (sym same) whole_is)) in
        law r code run.acts run.entries run.is_code typed_tree text start starts

    pub sources_mean : SourcesRunAsMeant
    sources_mean bytes code r c s =
        let one : c.makes.program ≡ s.program = one_fine bytes c.makes.program s.program c.makes.fine s.fine in
        let same : ◌≡◌ {A = Option ResolvedTree} (Some c.makes.makes.tree) (Some r) = sym c.makes.makes.resolves ∙ ap resolved one ∙ s.resolves in
        subst (λ (it : ResolvedTree). MeansEverywhere it code) (some_same same) (runs_everywhere bytes c.makes.program c.whole code c.makes.fine c.makes.makes c.thin)

    pub calls_mean : (ws : List Text) (files : Files) → CallsRunAsMeant ws files
    calls_mean ws files p code start a =
        record {
          source = a.makes.tree;
          resolves = a.makes.resolves;
          means = runs_everywhere a.spells.bytes p a.whole code a.spells.follows a.makes a.thin a.starts.bytes start a.starts.follows;
        }
