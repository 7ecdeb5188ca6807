-- Each typed program that keeps the region rules resolves, to one that is typed without names, whose regions are
-- numbered by place, and that reads as it was.
use Rattle.std.proofs.Common.{◌≡◌, ℕ, suc, ◌+◌, ◌≤◌, false, List, [], ◌∷◌, ◌++◌, length, map, Option, Some, None, refl, sym, ap, ◌∙◌, subst, arith}
use Rattle.std.proofs.lemmas.List.{length-map}
use Rattle.lam_syntax.specs.Tree.{TypeTree, VarTree, FunctionTree, class_item, function_item, ProgramTree, StmtList}
use Rattle.lam_operators.specs.Words.{Word}
use Rattle.lam_syntax.specs.Unplaced.{unplaced_id, unplaced_option_type, unplaced_var, unplaced_vars, unplaced_item, unplaced}
use Rattle.lam_builtins.specs.Limits.{most_regions}
use Rattle.lam_types_kinds.specs.Written.{written}
use Rattle.lam_types_kinds.specs.Tables.{Decls, typed_names, declared, declared_classes, declared_functions}
use Rattle.lam_types_exprs.specs.Judgement.{IsDeclared}
use Rattle.region_check.specs.Program.{result_type}
use Rattle.region_check.specs.Judgement.{AllDeclared, IsResult, EndsWith as EndsWords, IsFunction as IsFunctionWords, AllItems, IsTyped}
use Rattle.region_check.specs.Legal.{IsLegalBlock, IsRegionLegal}
use Rattle.lam_resolve_tree.specs.Tree.{ResolvedType, Block, ResolvedFunction, ResolvedTree}
use Rattle.lam_resolve_tree.specs.Typing.{ResolvedSignature, ResolvedSignatures, head_of, AreTypes, AreClasses, locals_of, in_function, block_ends, EndsWith, IsFunction, AreFunctions, IsTypedTree}
use Rattle.lam_resolve_tree.specs.Limits.{UnitFits, AllUnitsFit, AllFieldsFit, WithinLimits}
use Rattle.lam_resolve_tree.specs.Regions.{regions_of, function_regions, count_up, AreNumbered}
use Rattle.lam_resolve_laws.specs.Resolved.{then_some, numbered, resolve_type, resolve_result, resolve_vars, types_of, Tables, resolve_classes, resolve_head, resolve_heads, locals_from, state_as, resolve_function, resolve_functions, resolved}
use Rattle.lam_resolve_laws.specs.Names.{block_words, block_region_words, var_words, item_order, class_words, field_words, function_words, all_region_words, names_of, Words, with_slots, block_named, vars_named, result_named, function_named, items_named, program_named}
use Rattle.lam_resolve_laws.proofs.Has.{Has, done, next, from, weaker, back, some_is}
use Rattle.lam_resolve_laws.proofs.Counts.{block_slots, program_regions}
use Rattle.lam_resolve_laws.proofs.Scopes.{AreTied}
use Rattle.lam_resolve_laws.proofs.Exprs.{IsTypeFrom, declared_type, type_reads}
use Rattle.lam_resolve_laws.proofs.Parts.{IsPart, starts_whole, part_left, part_right, part_at, part_whole, length_grows, numbers_both, length-count_up}
use Rattle.lam_resolve_laws.proofs.ScopeSteps.{SameVars, vars_named_same, in_params}
use Rattle.lam_resolve_laws.proofs.Stmts.{SameReturn, ends_after, ends_is, block_is}
use Rattle.lam_resolve_laws.proofs.Declares.{vars_same, tables_as, tables_exist, head_words, head_from, heads_from, tied_tables}

vars_counted : (cs : List (Word × Unit {0})) (vs : List VarTree) (us : List (Word × ResolvedType)) → SameVars cs vs us → length us ≡ length vs
vars_counted cs [] [] h = refl
vars_counted cs [] (u ∷ us) h = absurd h
vars_counted cs (v ∷ vs) [] h = absurd h
vars_counted cs (v ∷ vs) (u ∷ us) (e, k, h) = ap suc (vars_counted cs vs us h)

module _ (d : Decls) (t : Tables) (p : ResolvedSignatures) (w : Words) (tied : AreTied d t p w.classes w.fields w.functions) where
  -- a written type that has a number
  type_from : (ty : TypeTree) (u : ResolvedType) → IsDeclared d ty → numbered t.names (written ty) ≡ Some u → IsTypeFrom d t p w tied (written ty) u
  type_from ty u h e =
      let k = declared_type d t p w tied ty h in
      subst (λ (u : ResolvedType). IsTypeFrom d t p w tied (written ty) u) (some_is k.it u (sym k.is ∙ e)) k.holds

  vars_typed : (vs : List VarTree) (us : List (Word × ResolvedType)) → AllDeclared d vs → SameVars t.names vs us → AreTypes p (types_of us)
  vars_typed [] [] h s = tt
  vars_typed [] (u ∷ us) h s = absurd s
  vars_typed (v ∷ vs) [] h s = absurd s
  vars_typed (v ∷ vs) (u ∷ us) (h, hs) (e, k, s) = ((type_from v.ty u.1 h k).fine, vars_typed vs us hs s)

  all_read : (vs : List VarTree) (us : List (Word × ResolvedType)) → AllDeclared d vs → SameVars t.names vs us → vars_named w.classes (var_words vs) (types_of us) ≡ unplaced_vars vs
  all_read [] [] h s = refl
  all_read [] (u ∷ us) h s = absurd s
  all_read (v ∷ vs) [] h s = absurd s
  all_read (v ∷ vs) (u ∷ us) (h, hs) (e, k, s) =
      ap (λ ty. record { name = unplaced_id v.name; ty = ty } ∷ vars_named w.classes (var_words vs) (types_of us)) (type_reads d t p w tied v.ty u.1 (type_from v.ty u.1 h k)) ∙ ap (λ l. unplaced_var v ∷ l) (all_read vs us hs s)

  vars_read : (vs : List VarTree) (us : List (Word × ResolvedType)) (more : List Word) → AllDeclared d vs → SameVars t.names vs us → vars_named w.classes (var_words vs ++ more) (types_of us) ≡ unplaced_vars vs
  vars_read [] [] [] h s = refl
  vars_read [] [] (x ∷ more) h s = refl
  vars_read [] (u ∷ us) more h s = absurd s
  vars_read (v ∷ vs) [] more h s = absurd s
  vars_read (v ∷ vs) (u ∷ us) more (h, hs) (e, k, s) =
      ap (λ ty. record { name = unplaced_id v.name; ty = ty } ∷ vars_named w.classes (var_words vs ++ more) (types_of us)) (type_reads d t p w tied v.ty u.1 (type_from v.ty u.1 h k)) ∙ ap (λ l. unplaced_var v ∷ l) (vars_read vs us more hs s)

  result_reads : (o : Option TypeTree) (r : Option ResolvedType) → IsResult d o → resolve_result t.names o ≡ Some r → result_named w.classes r ≡ unplaced_option_type o
  result_reads None r h e = ap (result_named w.classes) (sym (some_is None r e))
  result_reads (Some ty) r h e =
      let b = back (resolve_type t.names ty) (λ u. Some (Some u)) r e in
      ap (result_named w.classes) (sym (some_is (Some b.it) r b.next)) ∙ ap (λ a. Some a) (type_reads d t p w tied ty b.it (type_from ty b.it h b.first))

  return_same : (o : Option TypeTree) (r : Option ResolvedType) → resolve_result t.names o ≡ Some r → SameReturn t.names (result_type o) r
  return_same None r e = sym (some_is None r e)
  return_same (Some ty) r e = let b = back (resolve_type t.names ty) (λ u. Some (Some u)) r e in (b.it, b.first, sym (some_is (Some b.it) r b.next))

  ends_same : (o : Option TypeTree) (r : Option ResolvedType) (body : StmtList) (b : Block) → resolve_result t.names o ≡ Some r → EndsWords o body → block_ends false b ≡ ends_after false body → EndsWith r b
  ends_same None r body b e h k = subst (λ (r : Option ResolvedType). EndsWith r b) (some_is None r e) tt
  ends_same (Some ty) r body b e h k =
      let c = back (resolve_type t.names ty) (λ u. Some (Some u)) r e in
      subst (λ (r : Option ResolvedType). EndsWith r b) (some_is (Some c.it) r c.next) (k ∙ sym (ends_is body) ∙ h)

  module _ (rs : List (List Word)) (few_regions : length rs ≤ most_regions) where
    -- what is said of a function, after so many regions
    record IsFrom (m : ℕ) (f : FunctionTree) (h : ResolvedSignature) (a : ResolvedFunction × ℕ) : Type 0 where
      typed : IsFunction p a.0
      head : head_of a.0 ≡ h
      name : a.0.name ≡ f.name.word
      regions : a.1 ≡ m + length (block_region_words f.body)
      numbers : regions_of a.0.body ≡ count_up m (length (block_region_words f.body))
      fits : UnitFits a.0
      reads : function_named rs (with_slots w (var_words f.params ++ block_words f.body)) a.0 ≡ unplaced_item (function_item f)

    function_is : (m : ℕ) (f : FunctionTree) (h : ResolvedSignature) → resolve_head t.names f ≡ Some h → IsFunctionWords d f → IsLegalBlock false [] f.body → IsPart rs m (block_region_words f.body) →
        Has (resolve_function t m f) (λ a. IsFrom m f h a)
    function_is m f h e (ends_so, (differ, few, declared_types), result_declared, typed, slots) legal part =
        let k = head_from t.names f h e in
        let vs = k.vars in
        let same = vars_same t.names f.params vs k.vars_are in
        let ws : List Word = var_words f.params ++ block_words f.body in
        let words_same : map (λ v. v.0) vs ≡ var_words f.params = vars_named_same t.names f.params vs same in
        let head_part : IsPart ws 0 (map (λ v. v.0) vs) = subst (λ (l : List Word). IsPart ws 0 l) (sym words_same) (part_left ws 0 (var_words f.params) (block_words f.body) (part_whole ws)) in
        let count : length (var_words f.params) ≡ length (types_of vs) = ap length (sym words_same) ∙ length-map vs (λ v. v.0) ∙ sym (length-map vs (λ v. v.1)) in
        let as_many : length (types_of vs) ≡ length f.params = omega (arith, count, length-map f.params (λ (v : VarTree). v.name.word)) in
        let body_part : IsPart ws (length (types_of vs)) (block_words f.body) =
        part_at ws (0 + length (var_words f.params)) (length (types_of vs)) (block_words f.body) (omega (arith, count)) (part_right ws 0 (var_words f.params) (block_words f.body) (part_whole ws)) in
        from _ vs k.vars_are
        (from _ k.result k.result_is
        (next
        (block_is d t p w tied rs few_regions (result_type f.result) f.body false [] (typed_names f.params) (locals_from 0 vs) (state_as (types_of vs) m) (locals_of (types_of vs)) ws (in_function k.result) (in_params t.names f.params vs ws same head_part) body_part part
        (k.result, return_same f.result k.result k.result_is, refl) typed legal)
        (λ b x.
        done _
        (record {
          typed = record { more = x.grows.more; slots = x.grows.slots_are; body = x.typed b.state.slots (starts_whole b.state.slots); ends = ends_same f.result k.result f.body b.it k.result_is ends_so (x.ends_so false) };
          head = k.is;
          name = refl;
          regions = x.grows.regions_are;
          numbers = x.numbers;
          fits = record { params = omega (arith, few, as_many); slots = omega (arith, slots, as_many, length_grows (state_as (types_of vs) m) b.state (block_words f.body) (block_region_words f.body) x.grows, block_slots f.body); regions = x.fits };
          reads =
              ap (λ q. function_item (record { at = 0; name = unplaced_id f.name; params = q; result = result_named w.classes k.result; body = block_named rs (with_slots w ws) b.state.slots b.it })) (vars_read f.params vs (block_words f.body) declared_types same) ∙
              ap (λ q. function_item (record { at = 0; name = unplaced_id f.name; params = unplaced_vars f.params; result = q; body = block_named rs (with_slots w ws) b.state.slots b.it })) (result_reads f.result k.result result_declared k.result_is) ∙
              ap (λ q. function_item (record { at = 0; name = unplaced_id f.name; params = unplaced_vars f.params; result = unplaced_option_type f.result; body = q })) (x.reads b.state.slots (starts_whole b.state.slots));
        }))))

    -- and of the functions of a program from some item on
    record AreFrom (m : ℕ) (q : ProgramTree) (css : List (List (Word × ResolvedType))) (hs : List (Word × ResolvedSignature)) (fs : List ResolvedFunction) : Type 0 where
      typed : AreFunctions p fs
      classes : AreClasses p (map types_of css)
      heads : map head_of fs ≡ map (λ h. h.1) hs
      names : map (λ (f : ResolvedFunction). f.name) fs ≡ head_words q
      numbers : function_regions fs ≡ count_up m (length (all_region_words q))
      class_count : length css ≡ length (declared_classes q)
      function_count : length fs ≡ length (declared_functions q)
      fields_fit : AllFieldsFit (map types_of css)
      units_fit : AllUnitsFit fs
      reads : items_named rs w (item_order q) (class_words q) (field_words q) (map types_of css) (function_words q) fs ≡ unplaced q

    functions_are : (q : ProgramTree) (m : ℕ) (css : List (List (Word × ResolvedType))) (hs : List (Word × ResolvedSignature)) → resolve_classes t.names q ≡ Some css → resolve_heads t.names q ≡ Some hs → AllItems d q → IsRegionLegal q → IsPart rs m (all_region_words q) →
        Has (resolve_functions t m q) (λ fs. AreFrom m q css hs fs)
    functions_are [] m css hs ec eh h legal part =
        done []
        (subst (λ (css : List (List (Word × ResolvedType))). AreFrom m [] css hs []) (some_is [] css ec)
        (subst (λ (hs : List (Word × ResolvedSignature)). AreFrom m [] [] hs []) (some_is [] hs eh) (record { typed = tt; classes = tt; heads = refl; names = refl; numbers = refl; class_count = refl; function_count = refl; fields_fit = tt; units_fit = tt; reads = refl })))
    functions_are (class_item c ∷ q) m css hs ec eh ((differ, few, declared_types), rest) legal part =
        let b = back (resolve_vars t.names c.fields) (λ us. then_some (resolve_classes t.names q) (λ rest. Some (us ∷ rest))) css ec in
        let e = back (resolve_classes t.names q) (λ rest. Some (b.it ∷ rest)) css b.next in
        let same = vars_same t.names c.fields b.it b.first in
        weaker (functions_are q m e.it hs e.first eh rest legal part)
        (λ fs x.
        subst (λ (css : List (List (Word × ResolvedType))). AreFrom m (class_item c ∷ q) css hs fs) (some_is (b.it ∷ e.it) css e.next)
        (record {
          typed = x.typed;
          classes = (vars_typed c.fields b.it declared_types same, x.classes);
          heads = x.heads;
          names = x.names;
          numbers = x.numbers;
          class_count = ap suc x.class_count;
          function_count = x.function_count;
          fields_fit = (omega (arith, few, vars_counted t.names c.fields b.it same, length-map b.it (λ v. v.1)), x.fields_fit);
          units_fit = x.units_fit;
          reads =
              ap (λ vs. class_item (record { at = 0; name = unplaced_id c.name; fields = vs }) ∷ items_named rs w (item_order q) (class_words q) (field_words q) (map types_of e.it) (function_words q) fs) (all_read c.fields b.it declared_types same) ∙
              ap (λ l. unplaced_item (class_item c) ∷ l) x.reads;
        }))
    functions_are (function_item f ∷ q) m css hs ec eh (h, rest) (legal, more) part =
        let b = back (resolve_head t.names f) (λ h. then_some (resolve_heads t.names q) (λ rest. Some ((f.name.word, h) ∷ rest))) hs eh in
        let e = back (resolve_heads t.names q) (λ rest. Some ((f.name.word, b.it) ∷ rest)) hs b.next in
        next (function_is m f b.it b.first h legal (part_left rs m (block_region_words f.body) (all_region_words q) part)) (λ a x.
        next
        (functions_are q a.1 css e.it ec e.first rest more
        (part_at rs (m + length (block_region_words f.body)) a.1 (all_region_words q) (sym x.regions) (part_right rs m (block_region_words f.body) (all_region_words q) part)))
        (λ fs y.
        done (a.0 ∷ fs)
        (subst (λ (hs : List (Word × ResolvedSignature)). AreFrom m (function_item f ∷ q) css hs (a.0 ∷ fs)) (some_is ((f.name.word, b.it) ∷ e.it) hs e.next)
        (record {
          typed = (x.typed, y.typed);
          classes = y.classes;
          heads = ap (λ (h : ResolvedSignature). h ∷ map head_of fs) x.head ∙ ap (λ (l : List ResolvedSignature). b.it ∷ l) y.heads;
          names = ap (λ (n : Word). n ∷ map (λ (f : ResolvedFunction). f.name) fs) x.name ∙ ap (λ (l : List Word). f.name.word ∷ l) y.names;
          numbers = numbers_both m a.1 (block_region_words f.body) (all_region_words q) (regions_of a.0.body) (function_regions fs) x.numbers y.numbers x.regions;
          class_count = y.class_count;
          function_count = ap suc y.function_count;
          fields_fit = y.fields_fit;
          units_fit = (x.fits, y.units_fit);
          reads =
              ap (λ i. i ∷ items_named rs w (item_order q) (class_words q) (field_words q) (map types_of css) (function_words q) fs) x.reads ∙ ap (λ l. unplaced_item (function_item f) ∷ l) y.reads;
        }))))

-- what a program resolves to
pub record IsResolvedFrom (p : ProgramTree) (r : ResolvedTree) : Type 0 where
  pub typed : IsTypedTree r
  pub numbered_by_place : AreNumbered r
  pub limits : WithinLimits r
  pub reads : program_named (names_of p) r ≡ unplaced p

pub program_is : (p : ProgramTree) → IsTyped p → IsRegionLegal p → Has (resolved p) (λ r. IsResolvedFrom p r)
unfolding resolved
program_is p ((differ, classes_few, no_builtin, differ_too, functions_few), h, n) legal =
    let k = tables_exist p h in
    let tables_are = tables_as p k.css k.hs in
    let words : Words = record { classes = class_words p; fields = field_words p; functions = head_words p; slots = [] } in
    let tied = tied_tables p k.css k.hs k.classes k.functions in
    from _ tables_are k.are
    (next (functions_are (declared p) tables_are (heads_from tables_are) words tied (all_region_words p) (omega (arith, n, program_regions p)) p 0 k.css k.hs k.classes k.functions h legal (part_whole (all_region_words p))) (λ fs x.
    let heads_are : heads_from tables_are ≡ record { classes = map types_of k.css; functions = map head_of fs } = ap (λ (l : List ResolvedSignature). record { classes = map types_of k.css; functions = l }) (sym x.heads) in
    done _
    (record {
      typed = record { classes = subst (λ (p : ResolvedSignatures). AreClasses p (map types_of k.css)) heads_are x.classes; functions = subst (λ (p : ResolvedSignatures). AreFunctions p fs) heads_are x.typed };
      numbered_by_place = x.numbers ∙ ap (count_up 0) (sym (ap length x.numbers ∙ length-count_up 0 (length (all_region_words p))));
      limits = record {
        classes = omega (arith, classes_few, x.class_count, length-map k.css types_of);
        fields = x.fields_fit;
        functions = omega (arith, functions_few, x.function_count);
        units = x.units_fit;
        regions = omega (arith, n, ap length x.numbers, length-count_up 0 (length (all_region_words p)), program_regions p);
      };
      reads =
          ap
          (λ (l : List Word). items_named (all_region_words p) (record { classes = class_words p; fields = field_words p; functions = l; slots = [] }) (item_order p) (class_words p) (field_words p) (map types_of k.css) (function_words p) fs)
          x.names ∙
          x.reads;
    })))
