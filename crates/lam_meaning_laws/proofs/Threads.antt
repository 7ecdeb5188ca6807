-- Calls and threads, beside those of nested code.
use Rattle.std.proofs.Common.{◌≡◌, ℕ, zero, suc, Bool, true, false, List, [], length, Some, refl, sym, ap, ◌∙◌, subst, arith, length-append}
use Rattle.std.proofs.lemmas.List.{length-replicate}
use Rattle.std.specs.Prelude.{if◌then◌else◌, ◌-◌, nat_lt, replicate, slice_get}
use Rattle.flow_labels.specs.Flow.{public_label}
use Rattle.lam_value.specs.declared.names.Name.{Name}
use Rattle.lam_value.specs.declared.values.Value.{Value}
use Rattle.lam_value.specs.declared.values.Value.TheVariants.{Nothing}
use Rattle.lam_asks.specs.declared.answer.Outcome.TheVariants as outcome
use Rattle.lam_asks.specs.declared.answer.Answer.{Answer}
use Rattle.lam_asks.specs.declared.ask.Ask.{Ask}
use Rattle.lam_asks.specs.declared.ask.Ask.TheVariants as ask
use Rattle.thread_steps.specs.Ops.{region_takes}
use Rattle.lam_resolve_tree.specs.Tree.{ResolvedType, Statement, if_block, while_block, sync_block, region_block, Block, block_end, block_more, OtherBlock, no_other, other_block, ResolvedFunction, ResolvedTree}
use Rattle.lam_resolve_tree.specs.Typing.{heads_of, Scope, locals_of, Returning, in_function, IsBlock, IsFunction, IsTypedTree}
use Rattle.lam_resolve_tree.specs.Regions.{AreNumbered}
use Rattle.lam_meaning_typed.specs.Trees.{End, goes, raises, leaves, Tree, on_end}
use Rattle.lam_meaning_typed.specs.Means.{At, Does, means, calls_limit, call_end, first_locals, body_of, deeper, calls_to, runs, block_runs, last_ask}
use Rattle.lam_meaning_typed.specs.Scheme.{scheme}
use Rattle.lam_meaning_typed.proofs.Threads.{function_at}
use Rattle.lam_meaning_typed.specs.Nested.{Nested, block_code}
use Rattle.lam_meaning_laws.specs.Gathers.{Along, with_locals, Out, call_result, body_does, called, acts, acts_to, closing, Final, final_of, first_along}
use Rattle.lam_meaning_laws.specs.Gathers as nested
use Rattle.lam_meaning_laws.proofs.Placed.{IsPlaced, BlockPlaced, OtherPlaced, functions_placed}
use Rattle.lam_meaning_laws.specs.Joined.{NestedMeans}
use Rattle.lam_meaning_laws.proofs.Plays.{Keep, Held, stands, played, told, EndSized, Matches, MatchesAt, end_on, how_played, asks_played, not_broken, final_told}
use Rattle.lam_meaning_laws.proofs.Lists.{monitors}
use Rattle.lam_meaning_laws.proofs.Operations.{stays}
use Rattle.lam_meaning_laws.proofs.Expressions.{SameCalls, Inside}
use Rattle.lam_meaning_laws.proofs.Regions.{last_same}
use Rattle.lam_meaning_laws.proofs.Scopes.{inside_head}
use Rattle.lam_meaning_laws.proofs.Statements.{IsIn, BlockIn, OtherIn, keep_of, SameStatements, spend_same, exec_same, block_same}

-- ---- the regions of a program have as many captures in its code

mutual
  in_code : (r : ResolvedTree) (s : Statement) → IsPlaced r s → IsIn (scheme r) s
  in_code r (if_block e body other) h = (block_in r body h.0, other_in r other h.1)
  in_code r (while_block e body) h = block_in r body h
  in_code r (sync_block x e body) h = block_in r body h
  in_code r (region_block number l c from slots body slot handler) h = (ap region_takes h.0.found, block_in r body h.1, block_in r handler h.2)
  in_code r s h = tt

  block_in : (r : ResolvedTree) (b : Block) → BlockPlaced r b → BlockIn (scheme r) b
  block_in r block_end h = tt
  block_in r (block_more s rest) h = (in_code r s h.0, block_in r rest h.1)

  other_in : (r : ResolvedTree) (o : OtherBlock) → OtherPlaced r o → OtherIn (scheme r) o
  other_in r no_other h = tt
  other_in r (other_block body) h = block_in r body h

-- ---- calls

-- what a call gives, with the caller's locals
result_same : (kp : Keep) (H : Held) (size : ℕ) (ls : List Value) → length ls ≡ kp.size → (t : Tree (Unit {0})) (st : Along) (r : Out (List Value)) → MatchesAt (record { size = size; base = H ls }) (monitors [] (H ls)) (stays []) t st r → MatchesAt kp H (λ (v : Value). v) (on_end t (call_end ls)) st (call_result ls r)
result_same kp H size ls l t st r m = end_on (record { size = size; base = H ls }) kp (monitors [] (H ls)) H (stays []) (λ (v : Value). v) t st.answers st.asks r (call_end ls) (call_result ls) (λ how made. refl) go m
  where
    go : (e : End (Unit {0})) → EndSized size e → (xs : List Answer) (made : List Ask) → Matches kp H (λ (v : Value). v) (call_end ls e) xs made (call_result ls (told (stays []) (stands (record { size = size; base = H ls }) (monitors [] (H ls)) e xs made)))
    go (goes a n o) sized xs made = record { by = λ ok. refl; keeps = l }
    go (raises f n o) sized xs made = record { by = λ ok. refl; keeps = l }
    go (leaves v n o) sized xs made = record { by = λ ok. refl; keeps = l }

if_same : {A B : Type 0} (kp : Keep) (H : Held) (h : A → B) (b : Bool) (x y : Tree A) (st : Along) (x' y' : Out B) → MatchesAt kp H h x st x' → MatchesAt kp H h y st y' → MatchesAt kp H h (if b then x else y) st (if b then x' else y')
if_same kp H h true x y st x' y' mx my = mx
if_same kp H h false x y st x' y' mx my = my

module _ (r : ResolvedTree) (typed : IsTypedTree r) (numbered : AreNumbered r) where
  -- bodies of functions, beside their code
  abbrev SameBlocks : (Block → Does) → (Nested → nested.Does) → Type 0
  SameBlocks run acts =
      (slots : List ResolvedType) (ret : Returning) (env : Scope) (b : Block) → IsBlock (heads_of r) slots ret env b → Inside (length slots) env → BlockIn (scheme r) b →
      (base : List Name) (p : At) (n : ℕ) (st : Along) → length st.own.locals ≡ length slots →
      MatchesAt (keep_of slots base) (monitors [] base) (stays []) (run b p n st.own) st (acts (block_code [] b) p n [] base st)

  first_length : (fn : ResolvedFunction) (vs : List Value) → IsFunction (heads_of r) fn → length vs ≡ length fn.params → length (first_locals fn vs) ≡ length fn.slots
  first_length fn vs is e =
      let a = length-append vs (replicate (length fn.slots - length vs) Nothing) in
      let b = length-replicate (length fn.slots - length vs) Nothing in
      let c = ap length is.slots ∙ length-append fn.params is.more in
      omega (arith, a, b, c, e)

  body_same : (run : Block → Does) (acts : Nested → nested.Does) → SameBlocks run acts → (f : ℕ) (fn : ResolvedFunction) (vs : List Value) (base : List Name) (p : At) (n : ℕ) (st : Along) → slice_get r.functions f ≡ Some fn → length vs ≡ length fn.params →
      MatchesAt (keep_of fn.slots base) (monitors [] base) (stays []) (body_of run (slice_get r.functions f) vs p n st.own) st (body_does acts (slice_get r.functions f) vs p n base st)
  body_same run acts same f fn vs base p n st e many =
      let is = function_at (heads_of r) r.functions f fn typed.functions e in
      let st1 : Along = with_locals st (first_locals fn vs) in
      let m = same fn.slots (in_function fn.result) (locals_of fn.params) fn.body is.body (inside_head fn.slots fn.params is.more is.slots) (block_in r fn.body (functions_placed r numbered f fn e)) base p n st1 (first_length fn vs is many) in
      subst (λ b. MatchesAt (keep_of fn.slots base) (monitors [] base) (stays []) (body_of run b vs p n st.own) st (body_does acts b vs p n base st)) (sym e) (record { by = m.by; keeps = m.keeps })

  calls_same : (run : Block → Does) (acts : Nested → nested.Does) → SameBlocks run acts → SameCalls r (calls_to r run) (called r acts)
  calls_same run acts same kp H f fn vs p n st e many l =
      if_same kp H (λ (v : Value). v) (nat_lt p.calls calls_limit) _ _ st _ _
      (spend_same kp H (λ (v : Value). v) n st _ _ (λ m. result_same kp H (length fn.slots) st.own.locals l _ st _ (body_same run acts same f fn vs (H st.own.locals) (deeper p) m st e many)))
      (record { by = λ ok. refl; keeps = l })

  -- loops and calls to any depth
  record Runs (b : ℕ) : Type 0 where
    statements : SameStatements r (runs r b) (acts_to r b)
    blocks : SameBlocks (block_runs r b) (acts_to r b)

  runs_same : (b : ℕ) → Runs b
  runs_same zero =
      record {
        statements = λ os slots ret env x h op is hr base p n s st l. record { by = λ ok. refl; keeps = tt };
        blocks = λ slots ret env b h is hr base p n st l. record { by = λ ok. refl; keeps = tt };
      }
  runs_same (suc b) =
      let h = runs_same b in
      let calls = calls_same (block_runs r b) (acts_to r b) h.blocks in
      record {
        statements = λ os slots ret env x k op is hr base p n s st l. exec_same r (calls_to r (λ body. block_runs r b body)) (called r (acts_to r b)) calls (runs r b) (acts_to r b) h.statements os slots ret env x k op is hr base p n s st l;
        blocks = λ slots ret env x k is hr base p n st l. block_same r (calls_to r (λ body. block_runs r b body)) (called r (acts_to r b)) calls (runs r b) (acts_to r b) h.statements [] slots ret env x k tt is hr base p n [] st l;
      }

-- ---- a thread

closing_same : (size : ℕ) (t : Tree (Unit {0})) (st : Along) (r : Out (List Value)) → MatchesAt (record { size = size; base = [] }) (monitors [] []) (stays []) t st r → MatchesAt (record { size = size; base = [] }) (monitors [] []) (λ (u : Unit {0}). u) (on_end t last_ask) st (closing r)
closing_same size t st r m = end_on kp kp H H (stays []) (λ (u : Unit {0}). u) t st.answers st.asks r last_ask closing (λ how made. refl) go m
  where
    kp : Keep
    kp = record { size = size; base = [] }

    H : Held
    H = monitors [] []

    go : (e : End (Unit {0})) → EndSized size e → (xs : List Answer) (made : List Ask) → Matches (record { size = size; base = [] }) (monitors [] []) (λ (u : Unit {0}). u) (last_ask e) xs made (closing (told (stays []) (stands (record { size = size; base = [] }) (monitors [] []) e xs made)))
    go (goes a n o) sized xs made = last_same (record { size = size; base = [] }) (monitors [] []) o sized (ask.End (outcome.Value Nothing)) n xs made o
    go (raises f n o) sized xs made = last_same (record { size = size; base = [] }) (monitors [] []) o sized (ask.End (outcome.Failed f)) n xs made o
    go (leaves v n o) sized xs made = last_same (record { size = size; base = [] }) (monitors [] []) o sized (ask.End (outcome.Value v)) n xs made o

pub nested_means : (r : ResolvedTree) → NestedMeans r
unfolding means
nested_means r typed numbered n f fn vs k xs e many fit ok =
    let st : Along = first_along xs k in
    let place : At = record { label = public_label; calls = 1 } in
    let t = on_end (body_of (λ body. block_runs r (suc n) body) (slice_get r.functions f) vs place n st.own) last_ask in
    let kp : Keep = keep_of fn.slots [] in
    let h = runs_same r typed numbered (suc n) in
    let b = body_same r typed numbered (block_runs r (suc n)) (acts_to r (suc n)) h.blocks f fn vs [] place n st e many in
    let m = closing_same (length fn.slots) _ st _ b in
    let how = how_played kp (monitors [] []) t xs [] fit in
    let same = m.by (not_broken (played kp (monitors [] []) t xs []) (λ e. ok (sym how ∙ e))) in
    let end = sym (final_told (λ (u : Unit {0}). u) (played kp (monitors [] []) t xs [])) ∙ ap final_of same in
    (ap (λ (x : Final). x.asks) (sym end) ∙ asks_played kp (monitors [] []) t xs [] fit, ap (λ (x : Final). x.how) (sym end) ∙ how)
