-- The units of a typed program's functions and regions have layouts.
use Rattle.std.proofs.Common.{◌≡◌, ℕ, zero, suc, ◌+◌, List, [], ◌∷◌, ◌++◌, map, length, Option, Some, None, Ok, slice_get, refl, sym, ap, ◌∙◌, subst, arith}
use Rattle.std.specs.Prelude.{replicate}
use Rattle.std.proofs.lemmas.List.{length-map, length-replicate}
use Rattle.std.proofs.lemmas.Option.{slice_get_within}
use Rattle.lam_builtins.specs.Types.{int}
use Rattle.lam_value.specs.declared.values.Value.{Value}
use Rattle.lam_value.specs.declared.values.Value.TheVariants.{Nothing}
use Rattle.lam_bytecode.specs.Codes.{CodeTree, given}
use Rattle.lam_bytecode.specs.declared.op.Op.TheVariants.{Store, Return, LeaveRegion}
use Rattle.lam_bytecode.specs.declared.unit.CodeUnit.{CodeUnit}
use Rattle.thread_steps.specs.Ops.{UnitAt}
use Rattle.lam_resolve_tree.specs.Tree.{ResolvedType, Statement, if_block, while_block, sync_block, region_block, Block, block_end, block_more, OtherBlock, no_other, other_block, ResolvedFunction, ResolvedTree}
use Rattle.lam_resolve_tree.specs.Typing.{heads_of, a_local, a_monitor, Scope, with_use, local_if, locals_of, Returning, in_region, in_function, after, IsStatement, IsBlock, IsOther, IsFunction, AreFunctions, IsTypedTree}
use Rattle.lam_resolve_tree.specs.Regions.{AreNumbered}
use Rattle.lam_meaning.specs.Pieces.{size}
use Rattle.lam_meaning.specs.Scheme.{Draft, arg_kind, block, function_draft, region_draft, regions_of, regions_in, regions_in_other, all_regions, drafts, unit_of, scheme}
use Rattle.lam_meaning.specs.Long.{first_long_unit, unless_long}
use Rattle.lam_meaning_laws.specs.Nested.{Nested, does, puts, both, statement_code, block_code, branches_code}
use Rattle.lam_meaning_laws.specs.Lone.{bound}
use Rattle.lam_meaning_laws.proofs.Scopes.{captured_long}
use Rattle.lam_meaning_laws.proofs.Placed.{constants_of, IsPlaced, BlockPlaced, OtherPlaced, function_unit, functions_placed}
use Rattle.lam_meaning_laws.proofs.Stands.{width, op_here, Stands, FunctionStands}
use Rattle.lam_meaning_laws.proofs.Laid.{width_size, numbered_length}
use Rattle.lam_meaning_laws.proofs.Places.{region_length, function_length, all_stand}
use Rattle.guarded_code.specs.declared.known.ValueKind.TheVariants.{Number, Other, Unknown}
use Rattle.guarded_code.specs.Descriptions.{Description, untested, entry_locals, entry, catching}
use Rattle.guarded_code.specs.Changes.{known_at}
use Rattle.guarded_code.specs.Breaks.{IsGuarded}
use Rattle.guarded_code.specs.Says.{Pairwise}
use Rattle.guarded_code.specs.Facts.{IsUnitGuarded}
use Rattle.guarded_code.proofs.Breaking.{guarded_means}
use Rattle.guarded_code.proofs.Tables.{none_some, some_inj}
use Rattle.compiled_code_guarded.specs.Layouts.{Fact, Shape, IsOfKind, OperandFits, HasFact, Fits, FactSays}
use Rattle.compiled_code_guarded.proofs.OfKinds.{any_kind, of_less}
use Rattle.compiled_code_guarded.proofs.LaidOut.{laid_out}
use Rattle.compiled_code_guarded.specs.Compiled.{SchemeIsGuarded, CompiledIsGuarded}
use Rattle.compiled_code_guarded.proofs.Runs.{Weakens, Runs, shapes}
use Rattle.compiled_code_guarded.proofs.Lays.{all_back, at_same, entry_at, whole, front_at, exit_at, unit_laid_out, shapes_long}
use Rattle.compiled_code_guarded.proofs.Operands.{slot_kind, slots_of, at}
use Rattle.compiled_code_guarded.proofs.Expressions.{puts_runs}
use Rattle.compiled_code_guarded.proofs.Scopes.{open_more, stored_new, at_end, open_end, open_first}
use Rattle.compiled_code_guarded.proofs.Statements.{store_step, block_runs}

-- ---- where a unit begins

-- what fits a shape fits one that says less
fits_less : (locals : ℕ) (d : Description) (s x : Shape) → Fits locals d s → Weakens s x → Fits locals d x
fits_less locals d s x h w = record {
  stack = subst (λ ks. Pairwise OperandFits d.stack ks) (sym w.stack) h.stack;
  slots = λ n. of_less (known_at d.locals n).kind (s.slots n) (x.slots n) (h.slots n) (w.slots n);
  size = h.size;
  fact = by s.fact x.fact h.fact w.fact;
}
  where
    by : (m n : Option Fact) → HasFact m d.stack → FactSays m n → HasFact n d.stack
    by m None has says = tt
    by m (Some n) has says = subst (λ y. HasFact y d.stack) says has

entry_long : (given n : ℕ) → length (entry_locals given n) ≡ n
entry_long given zero = refl
entry_long zero (suc n) = ap suc (entry_long zero n)
entry_long (suc given) (suc n) = ap suc (entry_long given n)

entry_fits : (ts : List ResolvedType) (n m : ℕ) → IsOfKind (known_at (entry_locals (length ts) n) m).kind (slot_kind (local_if (slice_get ts m)))
entry_fits ts zero m = refl
entry_fits [] (suc n) m = any_kind (known_at (entry_locals 0 (suc n)) m).kind
entry_fits (t ∷ ts) (suc n) zero = refl
entry_fits (t ∷ ts) (suc n) (suc m) = entry_fits ts n m

-- the parameters or captures, whose types these are, may be of any kind
entered : (ts : List ResolvedType) (given locals : ℕ) → given ≡ length ts → Fits locals (record { stack = []; locals = entry_locals given locals }) (at (locals_of ts) [])
entered ts given locals e = record {
  stack = tt;
  slots = λ m. subst (λ g. IsOfKind (known_at (entry_locals g locals) m).kind (slot_kind (local_if (slice_get ts m)))) (sym e) (entry_fits ts locals m);
  size = entry_long given locals;
  fact = tt;
}

unknown_all : (locals n : ℕ) → (known_at (replicate locals (untested Unknown)) n).kind ≡ Unknown
unknown_all zero n = refl
unknown_all (suc locals) zero = refl
unknown_all (suc locals) (suc n) = unknown_all locals n

caught : (locals : ℕ) (env : Scope) → Fits locals (catching locals) (at env (Number ∷ []))
caught locals env = record {
  stack = (refl, tt);
  slots = λ n. subst (λ k. IsOfKind k (slots_of env n)) (sym (unknown_all locals n)) refl;
  size = length-replicate locals (untested Unknown);
  fact = tt;
}

-- ---- how long a unit is

function_long : (vs : List Value) (fn : ResolvedFunction) → length (unit_of vs (function_draft fn)).ops ≡ width (block_code [] fn.body) + 2
function_long vs fn = numbered_length vs (function_draft fn).code ∙ function_length fn

region_long : (vs : List Value) (number : ℕ) (from : List ℕ) (own : List ResolvedType) (body : Block) (slot : ℕ) (handler : Block) →
    length (unit_of vs (region_draft number from own body slot handler)).ops ≡ width (block_code [] body) + 1 + (1 + width (block_code [] handler)) + 1
region_long vs number from own body slot handler =
    numbered_length vs (region_draft number from own body slot handler).code ∙ region_length number from own body slot handler

-- ---- the units of a program

module _ (r : ResolvedTree) where
  abbrev the_unit : Draft → CodeUnit
  the_unit d = unit_of (constants_of r) d

  -- a function: its body, and null as the result where no return comes
  function_guarded : (most f : ℕ) (fn : ResolvedFunction) → slice_get r.functions f ≡ Some fn → IsFunction (heads_of r) fn → BlockPlaced r fn.body → FunctionStands (scheme r) f most fn → IsUnitGuarded (scheme r) (the_unit (function_draft fn))
  function_guarded most f fn e typed placed st =
      let u = the_unit (function_draft fn) in
      let env = locals_of fn.params in
      let later = at_end fn.slots env fn.body in
      let c = block_code [] fn.body in
      let opened = open_first fn.slots fn.params typed.more typed.slots in
      let runs = block_runs r fn.slots (in_function fn.result) env [] fn.body typed.body opened placed in
      let last = puts_runs r (length fn.slots) later (open_end (heads_of r) fn.slots (in_function fn.result) env [] fn.body typed.body opened).within Nothing [] in
      let h : Runs (scheme r) u.locals (both c (puts Nothing)) (at env []) (at later (Other ∷ [])) = (at later [], runs, last) in
      let there = function_unit r f fn e in
      let ss = whole (scheme r) f u there (both c (puts Nothing)) (at env []) (at later (Other ∷ [])) h in
      let z : 0 + width c + 1 ≡ 0 + width (both c (puts Nothing)) = omega arith in
      let first = entry_at (scheme r) f u ss (both c (puts Nothing)) 0 (at env []) (at later (Other ∷ [])) h
      (front_at (scheme r) f u there (both c (puts Nothing)) (at env []) (at later (Other ∷ [])) h)
      (exit_at (scheme r) f u there (both c (puts Nothing)) (at env []) (at later (Other ∷ [])) h) in
      laid_out (scheme r) u ss
      (unit_laid_out (scheme r) f u there (both c (puts Nothing)) Return (at env []) (at later (Other ∷ [])) h (st.body, st.null)
      (subst (λ k. op_here (scheme r) f k ≡ Some Return) z st.last)
      (record { names = refl; takes = (tt, tt); compares = tt; behind = tt }, λ a. refl)
      (omega (arith, function_long (constants_of r) fn))
      ((first.0, first.1, fits_less u.locals (entry u) (at env []) first.0 (entered fn.params (length (map arg_kind fn.params)) u.locals (length-map fn.params arg_kind)) first.2), tt))

  -- a region: its body, and its catch block, which finds the fault's number
  region_guarded : (number : ℕ) (from : List ℕ) (own : List ResolvedType) (body : Block) (slot : ℕ) (handler : Block) (ts more : List ResolvedType) (v : ℕ) →
      own ≡ ts ++ more → length from ≡ length ts → IsBlock (heads_of r) own in_region (locals_of ts) body → (slice_get own slot ≡ Some int) × (locals_of ts slot ≡ None) → IsBlock (heads_of r) own in_region (with_use (locals_of ts) slot (a_local int)) handler →
      BlockPlaced r body → BlockPlaced r handler → slice_get (scheme r).units v ≡ Some (the_unit (region_draft number from own body slot handler)) →
      Stands (scheme r) v 0 (block_code [] body) → op_here (scheme r) v (0 + width (block_code [] body)) ≡ Some LeaveRegion → Stands (scheme r) v (width (block_code [] body) + 1) (both (does (Store slot)) (block_code [] handler)) → op_here (scheme r) v (width (block_code [] body) + 1 + width (both (does (Store slot)) (block_code [] handler))) ≡ Some LeaveRegion →
      IsUnitGuarded (scheme r) (the_unit (region_draft number from own body slot handler))
  region_guarded number from own body slot handler ts more v split many typed free caught_typed placed_body placed_handler there st leave st' leave' =
      let u = the_unit (region_draft number from own body slot handler) in
      let env = locals_of ts in
      let later = at_end own env body in
      let env' = with_use env slot (a_local int) in
      let later' = at_end own env' handler in
      let b = block_code [] body in
      let x = both (does (Store slot)) (block_code [] handler) in
      let opened = open_first own ts more split in
      let lt = slice_get_within own slot int free.0 in
      let opened' = open_more (length own) env slot (a_local int) [] lt free.1 opened in
      let front : Runs (scheme r) u.locals (both b (does LeaveRegion)) (at env []) (at env (Number ∷ [])) =
      (at later [], block_runs r own in_region env [] body typed opened placed_body, (record { names = refl; takes = tt; compares = tt; behind = tt }, λ a. tt)) in
      let back : Runs (scheme r) u.locals x (at env (Number ∷ [])) (at later' []) =
      (at env' [], store_step r own slot Number env env' [] lt (stored_new env slot (a_local int)), block_runs r own in_region env' [] handler caught_typed opened' placed_handler) in
      let c = both (both b (does LeaveRegion)) x in
      let h : Runs (scheme r) u.locals c (at env []) (at later' []) = (at env (Number ∷ []), front, back) in
      let ss = whole (scheme r) v u there c (at env []) (at later' []) h in
      let all = front_at (scheme r) v u there c (at env []) (at later' []) h in
      let exit = exit_at (scheme r) v u there c (at env []) (at later' []) h in
      let z : width b + 1 ≡ 0 + width (both b (does LeaveRegion)) = omega arith in
      let z' : width b + 1 + width x ≡ 0 + width c = omega arith in
      let first = entry_at (scheme r) v u ss c 0 (at env []) (at later' []) h all exit in
      let place = 0 + width (both b (does LeaveRegion)) in
      let all_x = all_back ss 0 place (shapes (scheme r) u.locals (both b (does LeaveRegion)) (at env []) (at env (Number ∷ [])) front) (shapes (scheme r) u.locals x (at env (Number ∷ [])) (at later' []) back) (omega (arith, shapes_long (scheme r) u.locals (both b (does LeaveRegion)) (at env []) (at env (Number ∷ [])) front)) all in
      let exit_x = at_same (scheme r) v u ss (0 + width c) (place + width x) (at later' []) (omega arith) exit in
      let catch_place : place ≡ size (block [] body) + 1 = omega (arith, width_size (block_code [] body)) in
      let catch_entry = at_same (scheme r) v u ss place (size (block [] body) + 1) (at env (Number ∷ [])) catch_place (entry_at (scheme r) v u ss x place (at env (Number ∷ [])) (at later' []) back all_x exit_x) in
      laid_out (scheme r) u ss
      (unit_laid_out (scheme r) v u there c LeaveRegion (at env []) (at later' []) h
      ((st, leave), subst (λ k. Stands (scheme r) v k x) z st')
      (subst (λ k. op_here (scheme r) v k ≡ Some LeaveRegion) z' leave')
      (record { names = refl; takes = tt; compares = tt; behind = tt }, λ a. refl)
      (omega (arith, region_long (constants_of r) number from own body slot handler)) (
        (first.0, first.1, fits_less u.locals (entry u) (at env []) first.0 (entered ts (length from) u.locals many) first.2),
        ((catch_entry.0, catch_entry.1, fits_less u.locals (catching u.locals) (at env (Number ∷ [])) catch_entry.0 (caught u.locals env) catch_entry.2), tt),
      ))

  -- ---- the regions in statements

  abbrev EachGuarded : List Draft → Type 0
  EachGuarded [] = Unit {0}
  EachGuarded (d ∷ ds) = IsUnitGuarded (scheme r) (the_unit d) × EachGuarded ds

  each_append : (ds es : List Draft) → EachGuarded ds → EachGuarded es → EachGuarded (ds ++ es)
  each_append [] es h k = k
  each_append (d ∷ ds) es h k = (h.0, each_append ds es h.1 k)

  mutual
    regions_guarded : (slots : List ResolvedType) (ret : Returning) (env : Scope) (os : List ℕ) (s : Statement) (u pc : ℕ) → IsStatement (heads_of r) slots ret env s → IsPlaced r s → Stands (scheme r) u pc (statement_code os s) → EachGuarded (regions_of s)
    regions_guarded slots ret env os (if_block e body other) u pc h p st =
        branches_guarded slots ret env os (block_code os body) other (regions_in body) u _ (λ v to inner. block_guarded slots ret env os body v to h.1 p.0 inner) h.2 p.1 st.1
    regions_guarded slots ret env os (while_block e body) u pc h p st = block_guarded slots ret env os body u _ h.1 p st.3
    regions_guarded slots ret env os (sync_block x e body) u pc h p st = block_guarded slots ret (with_use env x (a_monitor h.0)) (x ∷ os) body u _ h.4 p st.1.1.1.1.0
    regions_guarded slots ret env os (region_block number l c from own body slot handler) u pc h p st =
        let region = st.1.1.1 in
        let d = region_draft number from own body slot handler in
        let it : region.2 ≡ the_unit d = ap (λ (x : UnitAt). x.it) (some_inj (sym region.3 ∙ p.0.found)) in
        let there : slice_get (scheme r).units region.1 ≡ Some (the_unit d) = region.4 ∙ ap (λ x. Some x) it in
        let own_unit = region_guarded number from own body slot handler h.0 h.1 region.1 h.5 (captured_long env from h.0 h.4) h.6 h.7 h.8 p.1 p.2 there region.7 region.8 region.9 region.10 in
        each_append (d ∷ regions_in body) (regions_in handler) (own_unit, block_guarded own in_region (locals_of h.0) [] body region.1 0 h.6 p.1 region.7)
        (block_guarded own in_region (with_use (locals_of h.0) slot (a_local int)) [] handler region.1 _ h.8 p.2 region.9.1)
    regions_guarded slots ret env os s u pc h p st = tt

    block_guarded : (slots : List ResolvedType) (ret : Returning) (env : Scope) (os : List ℕ) (b : Block) (u pc : ℕ) → IsBlock (heads_of r) slots ret env b → BlockPlaced r b → Stands (scheme r) u pc (block_code os b) → EachGuarded (regions_in b)
    block_guarded slots ret env os block_end u pc h p st = tt
    block_guarded slots ret env os (block_more s rest) u pc h p st =
        each_append (regions_of s) (regions_in rest) (regions_guarded slots ret env os s u pc h.0 p.0 st.0) (block_guarded slots ret (after slots env s) os rest u (pc + width (statement_code os s)) h.1 p.1 st.1)

    -- c is the code of the first block, whose regions these are
    branches_guarded : (slots : List ResolvedType) (ret : Returning) (env : Scope) (os : List ℕ) (c : Nested) (other : OtherBlock) (ds : List Draft) (u pc : ℕ) → ((v to : ℕ) → Stands (scheme r) v to c → EachGuarded ds) → IsOther (heads_of r) slots ret env other → OtherPlaced r other →
        Stands (scheme r) u pc (branches_code os c other) → EachGuarded (ds ++ regions_in_other other)
    branches_guarded slots ret env os c no_other ds u pc h k q st = each_append ds [] (h u _ st.2) tt
    branches_guarded slots ret env os c (other_block second) ds u pc h k q st = each_append ds (regions_in second) (h u _ st.2) (block_guarded slots ret env os second u _ k q st.5)

  -- ---- all units

  functions_each : (fs : List ResolvedFunction) → ((f : ℕ) (fn : ResolvedFunction) → slice_get fs f ≡ Some fn → IsUnitGuarded (scheme r) (the_unit (function_draft fn))) → EachGuarded (map function_draft fs)
  functions_each [] h = tt
  functions_each (fn ∷ fs) h = (h 0 fn refl, functions_each fs (λ f g e. h (suc f) g e))

  regions_each : (fs : List ResolvedFunction) → ((f : ℕ) (fn : ResolvedFunction) → slice_get fs f ≡ Some fn → EachGuarded (regions_in fn.body)) → EachGuarded (all_regions fs)
  regions_each [] h = tt
  regions_each (fn ∷ fs) h = each_append (regions_in fn.body) (all_regions fs) (h 0 fn refl) (regions_each fs (λ f g e. h (suc f) g e))

  typed_at : (fs : List ResolvedFunction) (f : ℕ) (fn : ResolvedFunction) → AreFunctions (heads_of r) fs → slice_get fs f ≡ Some fn → IsFunction (heads_of r) fn
  typed_at [] f fn h e = none_some e
  typed_at (g ∷ fs) zero fn h e = subst (IsFunction (heads_of r)) (some_inj e) h.0
  typed_at (g ∷ fs) (suc f) fn h e = typed_at fs f fn h.1 e

  each_at : (ds : List Draft) (n : ℕ) (u : CodeUnit) → EachGuarded ds → slice_get (map the_unit ds) n ≡ Some u → IsUnitGuarded (scheme r) u
  each_at [] n u h e = none_some e
  each_at (d ∷ ds) zero u h e = subst (IsUnitGuarded (scheme r)) (some_inj e) h.0
  each_at (d ∷ ds) (suc n) u h e = each_at ds n u h.1 e

  drafts_each : IsTypedTree r → AreNumbered r → EachGuarded (drafts r)
  drafts_each typed numbered =
      let stand = all_stand r numbered in
      let placed = functions_placed r numbered in
      each_append (map function_draft r.functions) (all_regions r.functions)
      (functions_each r.functions (λ f fn e. function_guarded (bound r) f fn e (typed_at r.functions f fn typed.functions e) (placed f fn e) (stand f fn e)))
      (regions_each r.functions (λ f fn e. block_guarded fn.slots (in_function fn.result) (locals_of fn.params) [] fn.body f 0 (typed_at r.functions f fn typed.functions e).body (placed f fn e) (stand f fn e).body))

  each_unit : EachGuarded (drafts r) → (n : ℕ) (u : CodeUnit) → slice_get (scheme r).units n ≡ Some u → IsUnitGuarded (scheme r) u
  unfolding scheme
  each_unit h n u e = each_at (drafts r) n u h e

pub scheme_guarded : SchemeIsGuarded
scheme_guarded r typed numbered = (guarded_means (scheme r)).1 (each_unit r (drafts_each r typed numbered))

-- ---- what compiling comes to

not_long : (o : Option ℕ) (c code : CodeTree) → unless_long o c ≡ Ok code → c ≡ code
not_long None c code e = cc
not_long (Some unit) c code e = absurd cc

pub compiled_guarded : CompiledIsGuarded
compiled_guarded r code typed numbered e = subst IsGuarded (not_long (first_long_unit r) (scheme r) code e) (scheme_guarded r typed numbered)
