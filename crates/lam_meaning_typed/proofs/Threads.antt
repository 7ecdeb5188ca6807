-- Threads of typed programs meet no operand of another kind; where values are of their types' sorts, they are not broken.
use Rattle.std.proofs.Common.{◌≡◌, ◌≢◌, ℕ, zero, suc, Bool, true, false, List, [], ◌∷◌, Option, Some, None, refl, sym, subst, length}
use Rattle.std.proofs.lemmas.Option.{same_Some}
use Rattle.std.specs.Prelude.{if◌then◌else◌, nat_lt, slice_get}
use Rattle.flow_labels.specs.Flow.{public_label}
use Rattle.capabilities.specs.declared.Caps.{Caps}
use Rattle.lam_value.specs.declared.values.Value.{Value}
use Rattle.lam_value.specs.declared.values.Value.TheVariants.{Nothing}
use Rattle.lam_asks.specs.declared.answer.Answer.{Answer}
use Rattle.lam_asks.specs.declared.answer.Answer.TheVariants.{Val}
use Rattle.lam_asks.specs.declared.answer.Outcome.TheVariants as outcome
use Rattle.lam_asks.specs.declared.ask.Ask.TheVariants as ask
use Rattle.lam_asks.specs.Suits as sorts
use Rattle.lam_asks.specs.Suits.{fits}
use Rattle.lam_resolve_tree.specs.Tree.{ResolvedType, Block, ResolvedFunction, ResolvedTree}
use Rattle.lam_resolve_tree.specs.Typing.{ResolvedSignatures, heads_of, given_by, Scope, locals_of, Returning, in_function, IsBlock, block_ends, EndsWith, IsFunction, AreFunctions, IsTypedTree}
use Rattle.lam_meaning.specs.Trees.{Own, with_locals, End, goes, raises, leaves, Tree, ends, spent, broken, asks}
use Rattle.lam_meaning.specs.Means.{At, Does, Caller, calls_limit, call_end, first_locals, body_of, deeper, calls_to, runs, block_runs, last_ask, means}
use Rattle.lam_meaning.specs.Plays.{how_of, waits, is_broken}
use Rattle.lam_meaning_typed.specs.Kinds.{IsA, AreOf, NeverBroken}
use Rattle.lam_meaning_typed.proofs.Values.{null_is}
use Rattle.lam_meaning_typed.proofs.Sorts.{AreBy, Sorts, IsWell}
use Rattle.lam_meaning_typed.proofs.Places.{GivesA}
use Rattle.lam_meaning_typed.proofs.Locals.{Fit, fit_on, fit_head}
use Rattle.lam_meaning_typed.proofs.Trees.{end_tree, done_tree, if_tree, spend_tree}
use Rattle.lam_meaning_typed.proofs.Expressions.{Values, CallsWell}
use Rattle.lam_meaning_typed.proofs.Statements.{OfBlock, DoesWell, exec_tree, block_tree}

pub function_at : (p : ResolvedSignatures) (fs : List ResolvedFunction) (f : ℕ) (fn : ResolvedFunction) → AreFunctions p fs → slice_get fs f ≡ Some fn → IsFunction p fn
function_at p [] f fn h e = absurd cc
function_at p (g ∷ fs) zero fn h e = subst (λ g. IsFunction p g) (same_Some g fn e) h.0
function_at p (g ∷ fs) (suc f) fn h e = function_at p fs f fn h.1 e

-- a function's body
abbrev pub OfBody : {r : ResolvedTree} (S : Sorts r) → ResolvedFunction → S.Known → End (Unit {0}) → Type 0
OfBody S fn G = OfBlock S fn.slots (in_function fn.result) (locals_of fn.params) (block_ends false fn.body) G

module _ {r : ResolvedTree} (S : Sorts r) (typed : IsTypedTree r) where
  abbrev RunsWell : (Block → Does) → Type 0
  RunsWell run =
      (slots : List ResolvedType) (ret : Returning) (env : Scope) (b : Block) → IsBlock (heads_of r) slots ret env b → (p : At) (n : ℕ) (o : Own) (G : S.Known) → Fit S G (length slots) env o.locals → IsWell S (OfBlock S slots ret env (block_ends false b)) G (run b p n o)

  unit_tree : (run : Block → Does) → RunsWell run → (f : ℕ) (fn : ResolvedFunction) (vs : List Value) (p : At) (n : ℕ) (o : Own) (G : S.Known) → slice_get r.functions f ≡ Some fn → AreBy (S.Is G) fn.params vs → IsWell S (OfBody S fn) G (body_of run (slice_get r.functions f) vs p n o)
  unit_tree run well f fn vs p n o G e are =
      let is = function_at (heads_of r) r.functions f fn typed.functions e in
      subst (λ b. IsWell S (OfBody S fn) G (body_of run b vs p n o)) (sym e)
      (well fn.slots (in_function fn.result) (locals_of fn.params) fn.body is.body p n (with_locals o (first_locals fn vs)) G (fit_head S G fn.slots fn.params is.more vs is.slots are))

  -- a body that goes on past its end has no result
  no_result : (G : S.Known) (t : Option ResolvedType) (b : Block) → EndsWith t b → block_ends false b ≡ false → GivesA S G (given_by t) Nothing
  no_result G None b h k = tt
  no_result G (Some t) b h k = absurd cc

  calls_tree : (run : Block → Does) → RunsWell run → CallsWell S (calls_to r run)
  calls_tree run well f fn vs p n size env o G e are l =
      let E = Values S size env (λ G v. GivesA S G (given_by fn.result) v) in
      if_tree S E G (nat_lt p.calls calls_limit) _ _ (spend_tree S E G n _ (λ n. end_tree S (OfBody S fn) E G _ (call_end o.locals) (unit_tree run well f fn vs (deeper p) n o G e are) each)) l
    where
      each : (H : S.Known) → S.Grows G H → (x : End (Unit {0})) → OfBody S fn H x → IsWell S (Values S size env (λ G v. GivesA S G (given_by fn.result) v)) H (call_end o.locals x)
      each H more (goes u n i) h = (no_result H fn.result fn.body (function_at (heads_of r) r.functions f fn typed.functions e).ends h.1, fit_on S G H more size env o.locals l)
      each H more (raises f n i) h = fit_on S G H more size env o.locals l
      each H more (leaves v n i) h = (h, fit_on S G H more size env o.locals l)

  -- loops and calls to any depth
  record Runs (b : ℕ) : Type 0 where
    statements : DoesWell S (runs r b)
    blocks : RunsWell (block_runs r b)

  runs_tree : (b : ℕ) → Runs b
  runs_tree zero = record { statements = λ os slots ret env s h op p n o G l. tt; blocks = λ slots ret env s h p n o G l. tt }
  runs_tree (suc b) =
      let h = runs_tree b in
      let call : Caller = calls_to r (λ body. block_runs r b body) in
      let well : CallsWell S call = calls_tree (block_runs r b) h.blocks in
      record {
        statements = λ os slots ret env s k op p n o G l. exec_tree S call well (runs r b) h.statements os slots ret env s k op p n o G l;
        blocks = λ slots ret env s k p n o G l. block_tree S call well (runs r b) h.statements [] slots ret env s false k tt refl p n o G l;
      }

  -- a thread, whose last ask may be made by what its function gives
  pub thread_tree : (E : S.Known → End (Unit {0}) → Type 0) (n f : ℕ) (fn : ResolvedFunction) (vs : List Value) (k : Caps) (G : S.Known) → slice_get r.functions f ≡ Some fn → AreBy (S.Is G) fn.params vs → ((H : S.Known) (x : End (Unit {0})) → OfBody S fn H x → IsWell S E H (last_ask x)) → IsWell S E G (means r n f vs k)
  unfolding means
  thread_tree E n f fn vs k G e are last =
      end_tree S (OfBody S fn) E G _ last_ask (unit_tree (block_runs r (suc n)) (runs_tree (suc n)).blocks f fn vs (record { label = public_label; calls = 1 }) n (record { locals = []; caps = k }) G e are) (λ H m x h. last H x h)

-- ---- values of the sorts of their types

-- nothing is known of the heap, and any ask may be made
abbrev by_sort : (r : ResolvedTree) → Sorts r
by_sort r =
    record {
      Known = Unit {0};
      Grows = λ G H. Unit {0};
      stays = λ G. tt;
      further = λ G H J a b. tt;
      Is = λ G t v. IsA t v;
      is_on = λ G H more t v h. h;
      kind = λ G t v h. h;
      plain = λ G t v o h. h;
      null_of = λ G t e. null_is t e;
      IsAsk = λ G t q. Unit {0};
      simple = λ G s a e same. tt;
      reads_field = λ G c f t x fields a b h. tt;
      reads_element = λ G t x len i l h. tt;
      writes_field = λ G c f t x v fields a b h k. tt;
      writes_element = λ G t x len i v l h k. tt;
      makes_object = λ G c. tt;
      makes_elements = λ G t len. tt;
      copies_object = λ G s c x l h. tt;
      copies_array = λ G s t x len l h. tt;
      spawns = λ G f fn vs k e res are. tt;
      IsAnswer = λ H t q x. fits q.want x ≡ true;
      suits = λ H t q x h. h;
      given = λ H t q v e gives h. subst (λ g. sorts.gives g (Val v) ≡ true) gives h;
    }

by_sorts : (ts : List ResolvedType) (vs : List Value) → AreOf ts vs → AreBy (λ t v. IsA t v) ts vs
by_sorts [] [] h = tt
by_sorts [] (v ∷ vs) h = absurd h
by_sorts (t ∷ ts) [] h = absurd h
by_sorts (t ∷ ts) (v ∷ vs) h = (h.0, by_sorts ts vs h.1)

never_broken : {A : Type 0} (r : ResolvedTree) (E : Unit {0} → End A → Type 0) (t : Tree A) (xs : List Answer) → IsWell (by_sort r) E tt t → how_of t xs ≢ is_broken
never_broken r E (ends e) xs h e' = cc
never_broken r E spent xs h e = cc
never_broken r E broken xs h e = h
never_broken r E (asks q k) [] h e = cc
never_broken r E (asks q k) (x ∷ xs) h e = go (fits q.want x) refl e (λ s. never_broken r E (k x) xs (h.2 tt x tt s))
  where
    go : (b : Bool) → fits q.want x ≡ b → (if b then how_of (k x) xs else waits) ≡ is_broken → (fits q.want x ≡ true → how_of (k x) xs ≢ is_broken) → ⊥
    go true s e k = k s e
    go false s e k = cc

abbrev Ended : Unit {0} → End (Unit {0}) → Type 0
Ended G e = Unit {0}

ends_well : (r : ResolvedTree) (H : Unit {0}) (x : End (Unit {0})) → IsWell (by_sort r) Ended H (last_ask x)
ends_well r H (goes u n o) = done_tree (by_sort r) Ended H (ask.End (outcome.Value Nothing)) tt n o tt refl (λ J m f. tt) (λ J m. tt)
ends_well r H (raises f n o) = done_tree (by_sort r) Ended H (ask.End (outcome.Failed f)) tt n o tt refl (λ J m f. tt) (λ J m. tt)
ends_well r H (leaves v n o) = done_tree (by_sort r) Ended H (ask.End (outcome.Value v)) tt n o tt refl (λ J m f. tt) (λ J m. tt)

pub typed_never_broken : (r : ResolvedTree) → NeverBroken r
typed_never_broken r typed n f fn vs k xs e are = never_broken r Ended (means r n f vs k) xs (thread_tree (by_sort r) typed Ended n f fn vs k tt e (by_sorts fn.params vs are) (λ H x h. ends_well r H x))
