-- One turn of a thread that stands as its source means.
use Rattle.std.proofs.Common.{◌≡◌, ℕ, ◌+◌, ◌<◌, ◌≤◌, true, List, [], ◌∷◌, ◌++◌, length, Some, refl, sym, ap, ◌∙◌, subst, arith, length-append, ⊎_elim}
use Rattle.std.specs.Prelude.{slice_get}
use Rattle.std.proofs.lemmas.Bool.{cases_lt}
use Rattle.std.proofs.lemmas.List.{append-nil, length-map}
use Rattle.capabilities.specs.declared.Caps.{Caps}
use Rattle.lam_value.specs.declared.values.Value.{Value}
use Rattle.lam_value.specs.declared.values.Value.TheVariants as value
use Rattle.lam_builtins.specs.Types.{int}
use Rattle.lam_asks.specs.declared.answer.Answer.{Answer}
use Rattle.lam_asks.specs.declared.answer.Answer.TheVariants.{Val}
use Rattle.lam_asks.specs.declared.answer.What.{What}
use Rattle.lam_asks.specs.declared.answer.What.TheVariants.{Private, Asked}
use Rattle.lam_asks.specs.declared.ask.Ask.{Ask}
use Rattle.lam_asks.specs.declared.ask.Ask.TheVariants.{Spawn}
use Rattle.lam_asks.specs.Suits.{want_of, fits}
use Rattle.lam_bytecode.specs.Codes.{CodeTree}
use Rattle.thread_steps.specs.Threads.{Thread}
use Rattle.thread_steps.specs.Next.{started}
use Rattle.lam_resolve_tree.specs.Tree.{ResolvedFunction, ResolvedTree}
use Rattle.lam_resolve_tree.specs.Typing.{IsTypedTree}
use Rattle.lam_meaning.specs.Trees.{asks}
use Rattle.lam_meaning.specs.Means.{sort_of, means}
use Rattle.lam_meaning.specs.Plays.{asks_of, AllFit, asks_made}
use Rattle.lam_meaning_typed.specs.Kinds.{AreOf}
use Rattle.lam_meaning_typed.proofs.First.{fewer_units}
use Rattle.lam_meaning_laws.specs.Lone.{runs, turn, turns, asks_in, work_done, alone}
use Rattle.lam_meaning_laws.proofs.Turns.{turns_add}
use Rattle.lam_meaning_laws.specs.Acts.{AreFirst, lone_in, ActsWith, ActsAs}
use Rattle.lam_meaning_laws.proofs.Grows.{turns_grow}
use Rattle.lam_machine_valid.specs.Worlds.{World}
use Rattle.lam_machine_valid.specs.Turns.{Moment, step}
use Rattle.lam_machine_valid.specs.Valid.{AreSoundStores}
use Rattle.lam_machine_valid.specs.Own.{OwnTurn, IsSpawned, OwnTurns}
use Rattle.lam_machine_means.specs.Typing.{Typing, Extends}
use Rattle.lam_machine_means.specs.Served.{IsAsk, given_type, IsAnswer, AsksTyped, AnsweredTyped, IsTypedWorld}
use Rattle.lam_machine_means.proofs.ServedLemmas.{typed_turns}
use Rattle.lam_machine_means.specs.Asks.{IsStart, IsSpawn, AsksWell, AnyEnd}
use Rattle.lam_machine_means.proofs.Values.{kinds_are}
use Rattle.lam_machine_means.proofs.Threads.{asks_typed}
use Rattle.lam_machine_means.specs.Runs.{asked_in, answers_in}
use Rattle.lam_machine_means.proofs.Alone.{even, answers_append, last_turn, own_turns, own_more}
use Rattle.lam_machine_means.proofs.Following.{rest_of, rest_none, NextAsk, fit_none, next_is, more_fit, rest_more, front_fit, beyond_fit}
use Rattle.lam_machine_means.proofs.Typed.{start_on, well_on, fits_by, turn_suits}

module _ (r : ResolvedTree) (code : CodeTree) (N : ℕ) where
  -- by what it did a thread stands where its source, with N units, asks what is typed
  pub record Stands (G : Typing) (f : ℕ) (vs : List Value) (k : Caps) (did : List What) (th : Thread) : Type 0 where
    pub own : OwnTurns code (started code f vs k) did th
    pub declared : ResolvedFunction
    pub found : slice_get r.functions f ≡ Some declared
    pub result : declared.result ≡ Some int
    pub sorts : AreOf declared.params vs
    pub suit : AllFit (asks_of (means r N f vs k) (answers_in did)) (answers_in did)
    pub well : AsksWell r AnyEnd G (rest_of (means r N f vs k) (answers_in did))

  pub stands_on : (G H : Typing) → Extends G H → (f : ℕ) (vs : List Value) (k : Caps) (did : List What) (th : Thread) → Stands G f vs k did th → Stands H f vs k did th
  stands_on G H more f vs k did th st =
      record { own = st.own; declared = st.declared; found = st.found; result = st.result; sorts = st.sorts; suit = st.suit; well = well_on G H more r (rest_of (means r N f vs k) (answers_in did)) st.well }

  -- with the answers that were got
  by_answers : (G : Typing) (f : ℕ) (vs : List Value) (k : Caps) (did : List What) (th : Thread) (xs : List Answer) → xs ≡ answers_in did → OwnTurns code (started code f vs k) did th → (fn : ResolvedFunction) → slice_get r.functions f ≡ Some fn → fn.result ≡ Some int → AreOf fn.params vs → AllFit (asks_of (means r N f vs k) xs) xs → AsksWell r AnyEnd G (rest_of (means r N f vs k) xs) → Stands G f vs k did th
  by_answers G f vs k did th xs e own fn found result sorts suit well =
      record {
        own = own;
        declared = fn;
        found = found;
        result = result;
        sorts = sorts;
        suit = subst (λ xs. AllFit (asks_of (means r N f vs k) xs) xs) e suit;
        well = subst (λ xs. AsksWell r AnyEnd G (rest_of (means r N f vs k) xs)) e well;
      }

  go_private : (G : Typing) (f : ℕ) (vs : List Value) (k : Caps) (did : List What) (th after : Thread) → Stands G f vs k did th → OwnTurn code th Private after → Stands G f vs k (did ++ Private ∷ []) after
  go_private G f vs k did th after st o =
      by_answers G f vs k (did ++ Private ∷ []) after (answers_in did) (sym (answers_append did (Private ∷ []) ∙ append-nil (answers_in did)))
      (own_more code (started code f vs k) th after did Private st.own o) st.declared st.found st.result st.sorts st.suit st.well

  pub begins : IsTypedTree r → (G : Typing) (f : ℕ) (vs : List Value) (k : Caps) → IsStart r G f vs → Stands G f vs k [] (started code f vs k)
  begins typed G f vs k start =
      record {
        own = refl;
        declared = start.0;
        found = start.1;
        result = start.2;
        sorts = kinds_are G start.0.params vs start.3;
        suit = fit_none (means r N f vs k);
        well = subst (λ t. AsksWell r AnyEnd G t) (sym (rest_none (means r N f vs k))) (asks_typed r typed N f vs k G start);
      }

  module _ (acts_as : ActsAs code r) (G : Typing) (f : ℕ) (vs : List Value) (k : Caps) (did : List What) (th : Thread) (st : Stands G f vs k did th) where
    acts : ActsWith code N r f vs k (answers_in did)
    acts = acts_as N f st.declared vs k (answers_in did) st.found st.sorts st.suit

    -- the thread alone, with the answers that it got
    here : (w : ℕ) × (lone_in code f vs k (answers_in did) (length did) ≡ runs th [] (asked_in did) w)
    here =
        let o = own_turns code (started code f vs k) th did [] [] 0 st.own in
        (o.0, ap (λ xs. turns code (length did) (alone code f vs k xs)) (sym (append-nil (answers_in did))) ∙ o.1)

    few : (m : ℕ) → work_done (lone_in code f vs k (answers_in did) m) ≤ m
    few m = let g = turns_grow code m (alone code f vs k (answers_in did)) in omega (arith, g.few)

    next_ask : (a : Ask) (x : Answer) (after : Thread) → OwnTurn code th (Asked a x) after → length did < N → NextAsk (means r N f vs k) (answers_in did) a
    next_ask a x after o lt =
        let xs = answers_in did in
        let s = alone code f vs k xs in
        let last = last_turn code th after a x (asked_in did) here.0 o in
        let same : lone_in code f vs k xs (length did + 1) ≡ _ = turns_add code 0 (length did) 1 s ∙ ap (turn code) here.1 ∙ last.1 in
        let le = few (length did + 1) in
        let first = subst (λ z. AreFirst (asks_in z) (asks_made r N f vs k xs)) same (acts.asks_only (length did + 1) (omega (arith, le, lt))) in
        next_is (means r N f vs k) xs (asked_in did) a first.0 st.suit first.1 (even did)

    covers : length did ≤ N → length (answers_in did) ≤ length (asks_of (means r N f vs k) (answers_in did))
    covers le =
        let xs = answers_in did in
        let w = few (length did) in
        let first = subst (λ z. AreFirst (asks_in z) (asks_made r N f vs k xs)) here.1 (acts.asks_only (length did) (omega (arith, w, le))) in
        let a = ap length first.1 ∙ length-append (asked_in did) first.0 in
        let b = length-map (asks_of (means r N f vs k) xs) (λ q. q.ask) in
        let c = even did in
        omega (arith, a, b, c)

    -- with any number of units
    pub suits_any : length did ≤ N → (n : ℕ) → AllFit (asks_of (means r n f vs k) (answers_in did)) (answers_in did)
    suits_any le n =
        let xs = answers_in did in
        ⊎_elim
        (λ lt. let cut = fewer_units r n N f vs k xs (omega (arith, lt)) in front_fit (asks_of (means r n f vs k) xs) cut.rest xs (subst (λ qs. AllFit qs xs) cut.first st.suit))
        (λ ge. let cut = fewer_units r N n f vs k xs ge in subst (λ qs. AllFit qs xs) (sym cut.first) (beyond_fit (asks_of (means r N f vs k) xs) cut.rest xs (covers le) st.suit)) (cases_lt n N)

    -- what a turn of the thread leads to
    pub record Moves (m : Moment) (after : Thread) : Type 0 where
      pub typing : Typing
      pub more : Extends G typing
      pub world : IsTypedWorld r.classes typing m.world
      pub stands : Stands typing f vs k (did ++ m.event.what ∷ []) after
      pub spawned : (u : ℕ) (new : Thread) (s : IsSpawned code u m.event.what new) → IsStart r typing s.unit s.args

    same_spawn : (a : Ask) (x : Answer) (what : What) (u g : ℕ) (us : List Value) (c : Caps) → what ≡ Asked a x → what ≡ Asked (Spawn g us c) (Val (value.Thread u)) → a ≡ Spawn g us c
    same_spawn a x what u g us c e i = let z = sym e ∙ i in cc

    pub moves : (w : World) (t : ℕ) (m : Moment) (after : Thread) → step code w t ≡ Some m → AreSoundStores w → IsTypedWorld r.classes G w → OwnTurn code th m.event.what after → length did < N → Moves m after
    moves w t m after h sound world own lt = by m.event.what refl
      where
        by : (what : What) → m.event.what ≡ what → Moves m after
        by Private e =
            let turned = typed_turns r.classes code w t m G int sound world h (subst (AsksTyped r.classes G int) (sym e) tt) in
            let H = turned.0 in
            record {
              typing = H;
              more = turned.1;
              world = turned.2;
              stands = subst (λ what. Stands H f vs k (did ++ what ∷ []) after) (sym e) (go_private H f vs k did th after (stands_on G H turned.1 f vs k did th st) (subst (λ what. OwnTurn code th what after) e own));
              spawned = λ u new s. absurd (let z = sym e ∙ s.asked in cc);
            }
        by (Asked a x) e =
            let xs = answers_in did in
            let tree = means r N f vs k in
            let o = subst (λ what. OwnTurn code th what after) e own in
            let n = next_ask a x after o lt in
            let wl : AsksWell r AnyEnd G (asks n.q n.go) = subst (λ t. AsksWell r AnyEnd G t) n.here st.well in
            let it = wl.0 in
            let asked : IsAsk r.classes G it.wanted a = subst (λ b. IsAsk r.classes G it.wanted b) n.same it.typed in
            let turned = typed_turns r.classes code w t m G it.wanted sound world h (subst (AsksTyped r.classes G it.wanted) (sym e) asked) in
            let H = turned.0 in
            let answered : IsAnswer H (given_type it.wanted a) x = subst (AnsweredTyped H it.wanted) e turned.3 in
            let fit : fits (want_of (sort_of it.wanted) a) x ≡ true = fits_by H it.wanted a x (turn_suits code w t m a x h e) answered in
            let fits_here : fits n.q.want x ≡ true = subst (λ z. fits z x ≡ true) (sym (it.want ∙ ap (want_of (sort_of it.wanted)) n.same)) fit in
            let left : AsksWell r AnyEnd H (n.go x) = wl.1 H x turned.1 fits_here (subst (λ b. IsAnswer H (given_type it.wanted b) x) (sym n.same) answered) in
            let stands =
            by_answers H f vs k (did ++ Asked a x ∷ []) after (xs ++ x ∷ []) (sym (answers_append did (Asked a x ∷ []))) (own_more code (started code f vs k) th after did (Asked a x) st.own o) st.declared st.found st.result st.sorts
            (more_fit n.q n.go x tree xs st.suit n.here fits_here) (subst (λ t. AsksWell r AnyEnd H t) (sym (rest_more n.q n.go x tree xs n.here)) left) in
            record {
              typing = H;
              more = turned.1;
              world = turned.2;
              stands = subst (λ what. Stands H f vs k (did ++ what ∷ []) after) (sym e) stands;
              spawned = λ u new s. start_on G H turned.1 r s.unit s.args (subst (λ b. IsSpawn r G b) (n.same ∙ same_spawn a x m.event.what u s.unit s.args s.caps e s.asked) it.spawns);
            }
