-- What is kept of a run, with one turn more.
use Rattle.std.proofs.Common.{◌≡◌, inl, inr, ◌⊎◌, ℕ, ◌+◌, ◌<◌, ◌≤◌, List, [], ◌∷◌, ◌++◌, length, map, get_or, Option, Some, None, refl, sym, ap, ◌∙◌, subst, append_assoc, length-append, arith}
use Rattle.std.specs.Prelude.{slice_get}
use Rattle.std.specs.Option.{option_to_list}
use Rattle.std.proofs.lemmas.Bool.{cases_eq}
use Rattle.std.proofs.lemmas.List.{map-append, length-map, append-nil}
use Rattle.std.proofs.lemmas.Option.{slice_get_within, same_Some}
use Rattle.lam_asks.specs.declared.answer.What.{What}
use Rattle.lam_asks.specs.declared.answer.What.TheVariants.{Private, Asked}
use Rattle.lam_asks.specs.declared.answer.Event.{Event}
use Rattle.lam_resolve_tree.specs.Tree.{ResolvedTree}
use Rattle.lam_meaning.specs.Plays.{asks_made}
use Rattle.lam_machine_terms.specs.Worlds.{World}
use Rattle.lam_machine_terms.specs.Turns.{Moment}
use Rattle.lam_machine_laws.specs.Own.{done_by}
use Rattle.lam_machine_replay.specs.Told.{product_label, IsToldBy}
use Rattle.lam_machine_replay.specs.Keeping.{KeptOfSoMany, KeepsEvent}
use Rattle.source_walk_state.specs.declared.Beginning.{Beginning}
use Rattle.source_walk_meets.specs.Runs.{asked_in}
use Rattle.source_walk_meets.specs.Walks.{asks_in}
use Rattle.source_walk_meets.specs.Births.{Birth, birth_of, births, AreOfThreads}
use Rattle.source_walk_meets.proofs.Lists.{is_there, split_get}
use Rattle.source_walk_follow.specs.declared.followers.Follower.{Follower}
use Rattle.source_walk_follow.specs.Following.{asks_met, FollowsTurn}
use Rattle.source_walk_follow.proofs.Following.{private_turn}
use Rattle.source_walk_run.specs.declared.turns_pass.Kept.{Kept}
use Rattle.source_walk_run.specs.Beginnings.{beginning_of}
use Rattle.source_walk_run.specs.Walking.{IsMeeting, AreFirstWalks, AreWalking, Begins, FollowsAt}
use Rattle.source_walk_run.specs.Keeping.{IsKept, Adds}
use Rattle.source_walk_run.proofs.Moving.{born_in, done_own, done_other, births_now, front_of, none_done}

abbrev whats_of : List Moment → List What
whats_of ms = map (λ (m : Moment). m.event.what) ms

asked_append : (did more : List What) → asked_in (did ++ more) ≡ asked_in did ++ asked_in more
asked_append [] more = refl
asked_append (Private ∷ did) more = asked_append did more
asked_append (Asked a x ∷ did) more = ap (λ l. a ∷ l) (asked_append did more)

-- ---- one thread

-- a turn of its own takes its walk on
meets_more : (r : ResolvedTree) (n : ℕ) (b : Beginning) (did : List What) (what : What) (w v : Follower) → FollowsTurn r w what v → IsMeeting r n b did w → IsMeeting r n b (did ++ what ∷ []) v
meets_more r n b did what w v turn (inl h) = inl (h.0, turn.follows (asks_made r n b.function b.args b.caps) did h.1)
meets_more r n b did what w v turn (inr h) = inr (h.0, turn.stays 0 h.1)

-- what stands behind a list
last_get : {X : Type 0} (x y : X) (j : ℕ) → slice_get (x ∷ []) j ≡ Some y → (j ≡ 0) × (x ≡ y)
last_get x y j e = let lt = slice_get_within (x ∷ []) j y e in let first : j ≡ 0 = omega (arith, lt) in (first, same_Some x y (sym (ap (slice_get (x ∷ [])) first) ∙ e))

-- ---- who begins

module _ (r : ResolvedTree) (starts : List Beginning) (turns : List ℕ) (ms : List Moment) where
  -- walks of so many threads of which some have begun by now, and each of which did this so far
  abbrev AreWith : List Birth → List Follower → Type 0
  AreWith bs walks =
      (length walks ≡ length starts + length bs) ×
      ((u : ℕ) (b : Beginning) (w : Follower) → slice_get (starts ++ map beginning_of bs) u ≡ Some b → slice_get walks u ≡ Some w → IsMeeting r (get_or turns u 0) b (done_by u ms) w)

  module _ (before : List Follower) (there : AreOfThreads (length starts) ms) (known : AreWalking r starts turns ms before) (birth : Birth) (one : Follower) (meets : IsMeeting r (get_or turns (length before) 0) (beginning_of birth) [] one) where
    abbrev begun : List Beginning
    begun = starts ++ map beginning_of (births ms)

    begun_length : length begun ≡ length before
    begun_length =
        let long = length-append starts (map beginning_of (births ms)) in
        let made = length-map (births ms) beginning_of in
        let many = known.many in
        omega (arith, long, made, many)

    begun_one : starts ++ map beginning_of (births ms ++ birth ∷ []) ≡ begun ++ beginning_of birth ∷ []
    begun_one = ap (λ l. starts ++ l) (map-append beginning_of (births ms) (birth ∷ [])) ∙ sym (append_assoc starts (map beginning_of (births ms)) (beginning_of birth ∷ []))

    meets_one : (u : ℕ) (b : Beginning) (w : Follower) → (slice_get begun u ≡ Some b) ⊎ ((j : ℕ) × (u ≡ length begun + j) × (slice_get (beginning_of birth ∷ []) j ≡ Some b)) → (slice_get before u ≡ Some w) ⊎ ((j : ℕ) × (u ≡ length before + j) × (slice_get (one ∷ []) j ≡ Some w)) → IsMeeting r (get_or turns u 0) b (done_by u ms) w
    meets_one u b w (inl h) (inl k) = known.each u b w h k
    meets_one u b w (inl h) (inr (j, f, k)) = absurd (let lt = slice_get_within begun u b h in let long = begun_length in omega (arith, lt, long, f))
    meets_one u b w (inr (j, f, h)) (inl k) = absurd (let lt = slice_get_within before u w k in let long = begun_length in omega (arith, lt, long, f))
    meets_one u b w (inr (j, f, h)) (inr (i, g, k)) =
        let first = last_get (beginning_of birth) b j h in
        let same = last_get one w i k in
        let zero = same.0 in
        let at : length before ≡ u = omega (arith, g, zero) in
        let many = known.many in
        let none : done_by u ms ≡ [] = none_done (length starts) u ms there (omega (arith, many, at)) in
        subst (λ (x : Follower). IsMeeting r (get_or turns u 0) b (done_by u ms) x) same.1
        (subst (λ (x : Beginning). IsMeeting r (get_or turns u 0) x (done_by u ms) one) first.1
        (subst (λ (did : List What). IsMeeting r (get_or turns u 0) (beginning_of birth) did one) (sym none) (subst (λ n. IsMeeting r (get_or turns n 0) (beginning_of birth) [] one) at meets)))

    with_one : AreWith (births ms ++ birth ∷ []) (before ++ one ∷ [])
    with_one = (
      (let long = length-append before (one ∷ []) in let more = length-append (births ms) (birth ∷ []) in let many = known.many in omega (arith, long, more, many)),
      (λ u b w h k. meets_one u b w (split_get begun (beginning_of birth ∷ []) u b (ap (λ l. slice_get l u) (sym begun_one) ∙ h)) (split_get before (one ∷ []) u w k)),
    )

  with_begun : (before between : List Follower) (o : Option Birth) → AreOfThreads (length starts) ms → AreWalking r starts turns ms before → Begins r turns o before between → AreWith (births ms ++ option_to_list o) between
  with_begun before between None there known begins =
      subst (λ (l : List Birth). AreWith l between) (sym (append-nil (births ms))) (subst (λ (l : List Follower). AreWith (births ms) l) (sym begins) (known.many, known.each))
  with_begun before between (Some birth) there known begins =
      subst (λ (l : List Follower). AreWith (births ms ++ birth ∷ []) l) (sym begins.walks) (with_one before there known birth begins.walk begins.meets)

-- ---- one moment more

-- fewer asks than so many
pub few_begun : (r : ResolvedTree) (turns : List ℕ) (most : ℕ) (before between : List Follower) (o : Option Birth) → 0 < most → Begins r turns o before between → ((u : ℕ) (w : Follower) → slice_get before u ≡ Some w → asks_met w < most) →
    (u : ℕ) (w : Follower) → slice_get between u ≡ Some w → asks_met w < most
few_begun r turns most before between None some begins few u w e = few u w (ap (λ l. slice_get l u) (sym begins) ∙ e)
few_begun r turns most before between (Some birth) some begins few u w e = by (split_get before (begins.walk ∷ []) u w (ap (λ l. slice_get l u) (sym begins.walks) ∙ e))
  where
    by : (slice_get before u ≡ Some w) ⊎ ((j : ℕ) × (u ≡ length before + j) × (slice_get (begins.walk ∷ []) j ≡ Some w)) → asks_met w < most
    by (inl h) = few u w h
    by (inr (j, f, h)) = let same = last_get begins.walk w j h in let none = ap asks_met (sym same.1) ∙ begins.asks in omega (arith, none, some)

pub one_ask : (what : What) → length (asked_in (what ∷ [])) ≤ 1
one_ask Private = omega arith
one_ask (Asked a x) = omega arith

module _ (r : ResolvedTree) (starts : List Beginning) (turns : List ℕ) (ms : List Moment) (m : Moment) (before after : Kept) (kept : IsKept r starts turns ms before) (adds : Adds r turns m.event.thread m.event.what before after) where
  abbrev moved : List Moment
  moved = ms ++ m ∷ []

  asks_more : after.asks ≡ asks_in moved
  asks_more =
      adds.asks ∙ ap (λ n. n + length (asked_in (m.event.what ∷ []))) kept.asks ∙ sym (length-append (asked_in (whats_of ms)) (asked_in (m.event.what ∷ []))) ∙ ap length (sym (asked_append (whats_of ms) (m.event.what ∷ []))) ∙ ap (λ l. length (asked_in l)) (sym (map-append (λ (m : Moment). m.event.what) ms (m ∷ [])))

  few_between : (u : ℕ) (w : Follower) → slice_get adds.between u ≡ Some w → asks_met w < length ms + 1
  few_between = few_begun r turns (length ms + 1) before.walks.items adds.between (birth_of m.event.what) (omega arith) adds.begins (λ u w e. let few = kept.few u w e in omega (arith, few))

  -- what stood there before
  stood : (v : Follower) → slice_get after.walks.items m.event.thread ≡ Some v → (w : Follower) × (slice_get adds.between m.event.thread ≡ Some w)
  stood v e = is_there adds.between m.event.thread (let lt = slice_get_within after.walks.items m.event.thread v e in let many = adds.follows.many in omega (arith, lt, many))

  few_more : (u : ℕ) (v : Follower) → slice_get after.walks.items u ≡ Some v → asks_met v ≤ length moved
  few_more u v e = by (cases_eq u m.event.thread)
    where
      by : (u ≡ m.event.thread) ⊎ (u ≡ m.event.thread → ⊥) → asks_met v ≤ length moved
      by (inl same) =
          let here = ap (slice_get after.walks.items) (sym same) ∙ e in
          let old = stood v here in
          let few = few_between m.event.thread old.0 old.1 in
          let turn = adds.follows.here old.0 v old.1 here in
          let more = turn.few in
          let long = length-append ms (m ∷ []) in
          omega (arith, few, more, long)
      by (inr apart) =
          let few = few_between u v (sym (adds.follows.apart u apart) ∙ e) in
          let long = length-append ms (m ∷ []) in
          omega (arith, few, long)

  module _ (threads : AreOfThreads (length starts) moved) where
    there : AreOfThreads (length starts) ms
    there = front_of (length starts) ms m threads

    grown : AreWith r starts turns ms (births ms ++ born_in m) adds.between
    grown = with_begun r starts turns ms before.walks.items adds.between (birth_of m.event.what) there (kept.walks there) adds.begins

    meets_at : (u : ℕ) (b : Beginning) (v : Follower) → slice_get (starts ++ map beginning_of (births ms ++ born_in m)) u ≡ Some b → slice_get after.walks.items u ≡ Some v → (u ≡ m.event.thread) ⊎ (u ≡ m.event.thread → ⊥) → IsMeeting r (get_or turns u 0) b (done_by u moved) v
    meets_at u b v h e (inl same) =
        let here = ap (slice_get after.walks.items) (sym same) ∙ e in
        let old = stood v here in
        subst (λ (did : List What). IsMeeting r (get_or turns u 0) b did v) (sym (done_own u ms m (sym same)))
        (meets_more r (get_or turns u 0) b (done_by u ms) m.event.what old.0 v (adds.follows.here old.0 v old.1 here) (grown.1 u b old.0 h (ap (slice_get adds.between) same ∙ old.1)))
    meets_at u b v h e (inr apart) =
        subst (λ (did : List What). IsMeeting r (get_or turns u 0) b did v) (sym (done_other u ms m (λ s. apart (sym s)))) (grown.1 u b v h (sym (adds.follows.apart u apart) ∙ e))

    walking_more : AreWalking r starts turns moved after.walks.items
    walking_more =
        record {
          many = adds.follows.many ∙ grown.0 ∙ ap (λ (l : List Birth). length starts + length l) (sym (births_now ms m));
          each = λ u b v h e. meets_at u b v (ap (λ (l : List Birth). slice_get (starts ++ map beginning_of l) u) (sym (births_now ms m)) ∙ h) e (cases_eq u m.event.thread);
        }

  pub kept_more : IsKept r starts turns moved after
  kept_more = record { walks = walking_more; few = few_more; asks = asks_more }

pub kept_event : (r : ResolvedTree) (starts : List Beginning) (turns : List ℕ) (turn : ℕ) (e : Event) (w : World) (before after : Kept) → Adds r turns e.thread e.what before after → KeepsEvent (IsKept r starts turns) turn e w before after
kept_event r starts turns turn e w before after adds m of_event of_world told ms many kept =
    kept_more r starts turns ms m before after kept (subst (λ (x : Event). Adds r turns x.thread x.what before after) (sym of_event) adds)

-- ---- a private turn adds nothing

stays_at : (r : ResolvedTree) (t : ℕ) (walks : List Follower) → FollowsAt r t Private walks walks
stays_at r t walks =
    record { many = refl; here = λ w v e f. subst (λ (x : Follower). FollowsTurn r w Private x) (same_Some w v (sym e ∙ f)) (private_turn r w); apart = λ u apart. refl }

nothing_added : (r : ResolvedTree) (turns : List ℕ) (t : ℕ) (kept : Kept) → Adds r turns t Private kept kept
nothing_added r turns t kept = record { between = kept.walks.items; begins = refl; follows = stays_at r t kept.walks.items; asks = omega arith }

pub private_left : (r : ResolvedTree) (starts : List Beginning) (turns : List ℕ) (ms : List Moment) (m : Moment) (kept : Kept) → m.event.what ≡ Private → IsToldBy m (product_label m.event.what) → IsKept r starts turns ms kept → IsKept r starts turns (ms ++ m ∷ []) kept
private_left r starts turns ms m kept e told is = kept_more r starts turns ms m kept kept is (subst (λ what. Adds r turns m.event.thread what kept kept) (sym e) (nothing_added r turns m.event.thread kept))

-- ---- none yet

pub none_kept : (r : ResolvedTree) (starts : List Beginning) (turns : List ℕ) (kept : Kept) → AreFirstWalks r starts turns kept.walks.items → kept.asks ≡ 0 → IsKept r starts turns [] kept
none_kept r starts turns kept first asks =
    record {
      walks = λ h. record { many = first.many ∙ omega arith; each = λ u b w k e. first.each u b w (ap (λ l. slice_get l u) (sym (append-nil starts)) ∙ k) e };
      few = λ u w e. let none = first.asks u w e in omega (arith, none);
      asks = asks;
    }

-- ---- there are fewer asks than turns

asks_few : (whats : List What) → length (asked_in whats) ≤ length whats
asks_few [] = omega arith
asks_few (Private ∷ whats) = let le = asks_few whats in omega (arith, le)
asks_few (Asked a x ∷ whats) = let le = asks_few whats in omega (arith, le)

module _ (r : ResolvedTree) (starts : List Beginning) (turns : List ℕ) (turn most : ℕ) (kept : Kept) (lt : turn < most) (h : KeptOfSoMany (IsKept r starts turns) turn kept) where
  pub room : kept.asks < most
  room =
      let few = asks_few (whats_of h.0) in
      let long = length-map h.0 (λ (m : Moment). m.event.what) in
      let all = h.2.asks in
      let many = h.1 in
      omega (arith, few, long, all, many, lt)

  pub rooms : (u : ℕ) (w : Follower) → slice_get kept.walks.items u ≡ Some w → asks_met w < most
  rooms u w e = let few = h.2.few u w e in let many = h.1 in omega (arith, few, many, lt)
