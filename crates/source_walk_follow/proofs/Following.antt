-- A walk along what a thread does, with one turn more.
use Rattle.std.proofs.Common.{◌≡◌, ℕ, ◌+◌, ◌<◌, List, [], ◌∷◌, ◌++◌, length, map, take, get_or, Option, Some, None, refl, sym, ap, ◌∙◌, subst, arith, add-one, append_assoc, length-append}
use Rattle.std.proofs.lemmas.List.{append-nil}
use Rattle.std.proofs.Math.Seq.{take-suc}
use Rattle.capabilities.specs.declared.Caps.{Caps}
use Rattle.lam_value.specs.declared.values.Value.{Value}
use Rattle.lam_asks.specs.declared.answer.Answer.{Answer}
use Rattle.lam_asks.specs.declared.answer.What.{What}
use Rattle.lam_asks.specs.declared.answer.What.TheVariants.{Private, Asked}
use Rattle.lam_asks.specs.declared.ask.Ask.{Ask}
use Rattle.lam_resolve_tree.specs.Tree.{ResolvedTree}
use Rattle.lam_meaning.specs.Means.{means}
use Rattle.lam_meaning.specs.Plays.{asks_of, asks_made}
use Rattle.source_walk_terms.specs.Runs.{asked_in, answers_in}
use Rattle.source_walk_terms.specs.Departs.{DepartsAt}
use Rattle.source_walk_state.specs.declared.Control.{Control}
use Rattle.source_walk_parts.specs.States.{State, state_of, left_at}
use Rattle.source_walk_follow.specs.declared.begins.Walking.{Walking}
use Rattle.source_walk_follow.specs.declared.followers.Follower.{Follower}
use Rattle.source_walk_follow.specs.declared.followers.Follower.TheVariants.{Along, Departed}
use Rattle.source_walk_follow.specs.Followed.{Follows}
use Rattle.source_walk_follow.specs.Standing.{asks_left, GoesOn, MakesOther, Meets}
use Rattle.source_walk_follow.specs.Following.{Source, GoesAlong, HasLeft, IsFollowing, place_left, FollowsTurn}
use Rattle.source_walk_follow.proofs.Standing.{settled_goes, settled_other}
use Rattle.source_walk_follow.proofs.Lists.{asked-append, answers-append, departs}

-- ---- one turn

module _ (r : ResolvedTree) (source : Source) (did : List What) (asks : ℕ) (c : Control) (s : State) (along : GoesAlong r source did asks c s) where
  asked_more : (a : Ask) (x : Answer) → asked_in (did ++ Asked a x ∷ []) ≡ asked_in did ++ a ∷ []
  asked_more a x = asked-append did (Asked a x ∷ [])

  answers_more : (a : Ask) (x : Answer) → answers_in (did ++ Asked a x ∷ []) ≡ answers_in did ++ x ∷ []
  answers_more a x = answers-append did (Asked a x ∷ [])

  along_more : (a : Ask) (x : Answer) (d : Control) (t : State) → GoesOn r c s a x d t → GoesAlong r source (did ++ Asked a x ∷ []) (asks + 1) d t
  along_more a x d t goes =
      record {
        many = omega (arith, along.many, ap length (asked_more a x), length-append (asked_in did) (a ∷ []));
        left = λ xs.
            ap (λ l. source (l ++ xs)) (answers_more a x)
            ∙ (ap source (append_assoc (answers_in did) (x ∷ []) xs)
            ∙ (along.left (x ∷ xs)
            ∙ (ap (λ l. asked_in did ++ l) (goes xs)
            ∙ (sym (append_assoc (asked_in did) (a ∷ []) (asks_left r d t xs)) ∙ ap (λ l. l ++ asks_left r d t xs) (sym (asked_more a x))))));
      }

  -- another ask, or none, stands there
  left_there : (a : Ask) (x : Answer) → MakesOther r c s a → HasLeft source (did ++ Asked a x ∷ []) asks
  left_there a x other more =
      departs (asked_in did) (asked_in ((did ++ Asked a x ∷ []) ++ more)) (source (answers_in ((did ++ Asked a x ∷ []) ++ more))) a (asked_in more) asks
      (ap asked_in (append_assoc did (Asked a x ∷ []) more) ∙ asked-append did (Asked a x ∷ more)) (asks_left r c s (x ∷ answers_in more))
      (ap (λ l. source (answers_in l)) (append_assoc did (Asked a x ∷ []) more) ∙ (ap source (answers-append did (Asked a x ∷ more)) ∙ along.left (x ∷ answers_in more))) (other (x ∷ answers_in more)) along.many

  private_along : GoesAlong r source (did ++ Private ∷ []) asks c s
  private_along =
      let asked : asked_in (did ++ Private ∷ []) ≡ asked_in did = asked-append did (Private ∷ []) ∙ append-nil (asked_in did) in
      let answers : answers_in (did ++ Private ∷ []) ≡ answers_in did = answers-append did (Private ∷ []) ∙ append-nil (answers_in did) in
      record {
        many = along.many ∙ ap length (sym asked);
        left = λ xs. ap (λ l. source (l ++ xs)) answers ∙ (along.left xs ∙ ap (λ l. l ++ asks_left r c s xs) (sym asked));
      }

-- one that has left stays so
stays_left : (source : Source) (did : List What) (what : What) (place : ℕ) → HasLeft source did place → HasLeft source (did ++ what ∷ []) place
stays_left source did what place h more = subst (λ (l : List What). DepartsAt (asked_in l) (source (answers_in l)) place) (sym (append_assoc did (what ∷ []) more)) (h (what ∷ more))

-- ---- followers

one_place : (place asks : ℕ) (w : Walking) → ◌≡◌ {A = Follower} (Along w asks) (Departed place) → ⊥
one_place place asks w e = cc

module _ (r : ResolvedTree) where
  private_by : (source : Source) (did : List What) (w : Follower) → IsFollowing r source did w → IsFollowing r source (did ++ Private ∷ []) w
  private_by source did (Along w asks) h = private_along r source did asks w.control (state_of w.walk) h
  private_by source did (Departed place) h = stays_left source did Private place h

  pub private_turn : (w : Follower) → FollowsTurn r w Private w
  private_turn w = record { follows = λ source did h. private_by source did w h; stays = λ place e. e; few = omega arith }

  pub departed_turn : (place : ℕ) (what : What) → FollowsTurn r (Departed place) what (Departed place)
  departed_turn place what = record { follows = λ source did h. stays_left source did what place h; stays = λ place e. e; few = omega arith }

  module _ (w : Walking) (asks : ℕ) (a : Ask) (x : Answer) (t : State) where
    pub leaves_turn : Meets r w.control (state_of w.walk) a x t None → FollowsTurn r (Along w asks) (Asked a x) (Departed asks)
    leaves_turn other =
        record {
          follows = λ source did h. left_there r source did asks w.control (state_of w.walk) h a x other;
          stays = λ place e. absurd (one_place place asks w e);
          few = omega arith;
        }

    pub goes_turn : (v : Walking) → Meets r w.control (state_of w.walk) a x (state_of v.walk) (Some v.control) → FollowsTurn r (Along w asks) (Asked a x) (Along v (asks + 1))
    goes_turn v goes =
        record {
          follows = λ source did h. along_more r source did asks w.control (state_of w.walk) h a x v.control (state_of v.walk) goes;
          stays = λ place e. absurd (one_place place asks w e);
          few = omega arith;
        }

  -- nothing was done yet
  pub begins : (n f : ℕ) (vs : List Value) (k : Caps) (w : Walking) → left_at r w.control (state_of w.walk) ≡ means r n f vs k → IsFollowing r (asks_made r n f vs k) [] (Along w 0)
  begins n f vs k w e = record { many = refl; left = λ xs. ap (λ t. map (λ q. q.ask) (asks_of t xs)) (sym e) }

  -- all is done
  pub followed : (source : Source) (did : List What) (w : Follower) → IsFollowing r source did w → Follows (asked_in did) (source (answers_in did)) (place_left w)
  followed source did (Along w asks) h = (asks_left r w.control (state_of w.walk) [], ap source (sym (append-nil (answers_in did))) ∙ h.left [])
  followed source did (Departed place) h = subst (λ (l : List What). DepartsAt (asked_in l) (source (answers_in l)) place) (append-nil did) (h [])

-- ---- a history

-- one turn more
turn_taken : (did : List What) (i : ℕ) (x : What) → i < length did → x ≡ get_or did i x → take (i + 1) did ≡ take i did ++ x ∷ []
turn_taken did i x h e = rw (add-one) (take-suc did i x h ∙ ap (λ y. take i did ++ y ∷ []) (sym e))

pub one_more : (r : ResolvedTree) (source : Source) (did : List What) (i : ℕ) (x : What) (w v : Follower) → i < length did → x ≡ get_or did i x → FollowsTurn r w x v → IsFollowing r source (take i did) w → IsFollowing r source (take (i + 1) did) v
one_more r source did i x w v lt is turn h = subst (λ (l : List What). IsFollowing r source l v) (sym (turn_taken did i x lt is)) (turn.follows source (take i did) h)

-- where the walk settled before
pub settled_meets : (r : ResolvedTree) (c d : Control) (s u : State) (a : Ask) (y : Answer) (t : State) (o : Option Control) → left_at r d u ≡ left_at r c s → Meets r d u a y t o → Meets r c s a y t o
settled_meets r c d s u a y t None e h = settled_other r c d s u a e h
settled_meets r c d s u a y t (Some x) e h = settled_goes r c d s u a y x t e h
