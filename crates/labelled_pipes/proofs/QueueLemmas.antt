-- The pipes' own map against what is seen of it.
use Rattle.std.proofs.Common.{◌≡◌, ◌<◌, ℕ, cond, List, [], ◌∷◌, Option, Some, None, IfNone, is_some, refl, sym, ap, ◌∙◌, Bool, true, false}
use Rattle.std.specs.Prelude.{IsTrue}
use Rattle.std.specs.Option.{option_map, unwrap_or}
use Rattle.std.specs.Map.{lookup}
use Rattle.std.specs.FinMap.{get, insert, empty}
use Rattle.lam_value.specs.declared.names.Name.{Name}
use Rattle.lam_value.specs.Names.{name_cmp}
use Rattle.lam_value.specs.Homes.{Home, Counts, name_of, count_in, counted}
use Rattle.lam_value.specs.Maps.{seen_at}
use Rattle.lam_value.proofs.Keys.{name_eq, name_total, name_exact, name_ties}
use Rattle.lam_value.specs.Alike.{AreAlikeWhere}
use Rattle.lam_value.proofs.CountLemmas.{counted_none, counted_next, counted_change, within_none, within_more}
use Rattle.lam_value.proofs.SameLemmas.{seen_where, where_seen, seen_same_map, same_map_alike}
use Rattle.lam_value.proofs.Maps.{get_seen, seen_same, seen_insert, insert_same}
use Rattle.labelled_pipes.specs.declared.message.Message.{Message}
use Rattle.labelled_pipes.specs.declared.message.MessageKind.{MessageKind}
use Rattle.labelled_pipes.specs.Messages.{is_of, front_of, rest_of}
use Rattle.labelled_pipes.specs.Queues.{Queues, no_pipes, waiting_at, changed_at, with_pipe, IsSound}
use Rattle.labelled_pipes.specs.Seen.{queues_of}

abbrev Line : Type 0
Line = List Message

map_self : {X : Type 0} (o : Option X) → option_map (λ (x : X). x) o ≡ o
map_self None = refl
map_self (Some x) = refl

module _ (es : List (Name × Line)) (counts : Counts) (m : Queues) (seen : queues_of es counts ≡ m) where
  pub get_line : (n : Name) → lookup (name_eq n) es ≡ get m.waiting n
  get_line n =
      sym (map_self (lookup (name_eq n) es))
      ∙ sym (get_seen name_cmp name_eq (λ (line : Line). line) name_total name_exact name_ties es n)
      ∙ ap (λ (t : Queues). get t.waiting n) seen

  pub lives_seen : (n : Name) → is_some (lookup (name_eq n) es) ≡ is_some (get m.waiting n)
  lives_seen n = ap is_some (get_line n)

  -- where nothing is stored nothing is seen
  pub no_line : (n : Name) → lookup (name_eq n) es ≡ None → get m.waiting n ≡ None
  no_line n e = sym (get_line n) ∙ e

  -- and of what is stored its line
  pub the_line : (n : Name) (line : Line) → lookup (name_eq n) es ≡ Some line → get m.waiting n ≡ Some line
  the_line n line e = sym (get_line n) ∙ e

  pub line_there : (n : Name) (line : Line) → lookup (name_eq n) es ≡ Some line → line ≡ waiting_at m n
  line_there n line e = sym (ap (λ o. unwrap_or o []) (the_line n line e))

  pub none_there : (n : Name) → lookup (name_eq n) es ≡ None → [] ≡ waiting_at m n
  none_there n e = sym (ap (λ o. unwrap_or o []) (no_line n e))

  -- pipes with the same lines and the same counters
  pub kept : (fs : List (Name × Line)) (now : Counts) → ((q : Name) → lookup (name_eq q) fs ≡ lookup (name_eq q) es) → now ≡ counts → queues_of fs now ≡ m
  kept fs now same same_counts =
      (λ i. record {
        waiting = seen_same name_cmp name_eq (λ (line : Line). line) name_total name_exact name_ties es fs same i;
        counts = same_counts i;
      })
      ∙ seen

  -- no pipe of that name: nothing is written
  pub unwritten : (fs : List (Name × Line)) (n : Name) (f : Line → Line) → fs ≡ es → lookup (name_eq n) es ≡ None → queues_of fs counts ≡ changed_at (get m.waiting n) m n f
  unwritten fs n f e none = ap (λ l. queues_of l counts) e ∙ seen ∙ sym (ap (λ o. changed_at o m n f) (no_line n none))

  -- a pipe whose line was changed
  pub written : (fs : List (Name × Line)) (n : Name) (line after : Line) (f : Line → Line) → lookup (name_eq n) es ≡ Some line → after ≡ f line
      → ((q : Name) → lookup (name_eq q) fs ≡ cond (name_eq n q) (Some after) (lookup (name_eq q) es)) → queues_of fs counts ≡ changed_at (get m.waiting n) m n f
  written fs n line after f there is put =
      (λ i. record {
        waiting = (seen_insert name_cmp name_eq (λ (l : Line). l) name_total name_exact name_ties es fs n after put
            ∙ ap (λ (l : Line). insert (seen_at name_cmp (λ (l : Line). l) es) n l) is) i;
        counts = counts;
      })
      ∙ ap (λ (t : Queues). record t { waiting = insert t.waiting n (f line) }) seen
      ∙ sym (ap (λ o. changed_at o m n f) (the_line n line there))

  -- a pipe whose line stands as it stood
  pub line_kept : (fs : List (Name × Line)) (n : Name) (line after : Line) → lookup (name_eq n) es ≡ Some line → after ≡ line
      → ((q : Name) → lookup (name_eq q) fs ≡ cond (name_eq n q) (Some after) (lookup (name_eq q) es)) → queues_of fs counts ≡ m
  line_kept fs n line after there is put =
      (λ i. record {
        waiting = (seen_insert name_cmp name_eq (λ (l : Line). l) name_total name_exact name_ties es fs n after put
            ∙ ap (λ (l : Line). insert (seen_at name_cmp (λ (l : Line). l) es) n l) is
            ∙ insert_same name_cmp name_total name_exact (seen_at name_cmp (λ (l : Line). l) es) n line (get_seen name_cmp name_eq (λ (l : Line). l) name_total name_exact name_ties es n ∙ ap (option_map (λ (l : Line). l)) there)) i;
        counts = counts;
      })
      ∙ seen

  -- a pipe more
  pub added : (fs : List (Name × Line)) (now : Counts) (home : Home) (number : ℕ) → number ≡ count_in counts home
      → ((q : Name) → lookup (name_eq q) fs ≡ cond (name_eq (name_of home number) q) (Some []) (lookup (name_eq q) es)) → now ≡ counted counts home → queues_of fs now ≡ with_pipe m home
  added fs now home number is put more =
      (λ i. record {
        waiting = (seen_insert name_cmp name_eq (λ (line : Line). line) name_total name_exact name_ties es fs (name_of home number) [] put
            ∙ ap (λ k. insert (seen_at name_cmp (λ (line : Line). line) es) (name_of home k) []) is) i;
        counts = more i;
      })
      ∙ ap (λ (t : Queues). with_pipe t home) seen

  -- the next number of a home
  pub room_seen : (home : Home) (number : ℕ) → number ≡ count_in m.counts home → number ≡ count_in counts home
  room_seen home number is = is ∙ sym (ap (λ (t : Queues). count_in t.counts home) seen)

  pub counts_seen : counts ≡ m.counts
  counts_seen = ap (λ (t : Queues). t.counts) seen

-- where the front is of no such kind the line stays
pub nothing_taken : (kind : MessageKind) (line : Line) → front_of kind line ≡ None → rest_of kind line ≡ line
nothing_taken kind [] e = refl
nothing_taken kind (m ∷ line) e =
    elim (is_of kind m) as (λ b. cond b (Some m) None ≡ None → cond b line (m ∷ line) ≡ m ∷ line) [
      | true ↦ λ e. cc
      | false ↦ λ e. refl
    ] e

pub if_none : {X : Type 0} (P : Type 0) (o : Option X) → (o ≡ None → P) → IfNone o P
if_none P None f = f refl
if_none P (Some x) f = tt

-- ---- what holds of all pipes
pub sound_none : IsSound no_pipes
sound_none = record { counted = counted_none Line empty; within = within_none 4096 }

pub sound_pipe : (q : Queues) (home : Home) → IsSound q → count_in q.counts home < 4096 → IsSound (with_pipe q home)
sound_pipe q home sound room = record {
  counted = counted_next q.waiting q.counts home [] sound.counted;
  within = within_more 4096 q.counts home sound.within room;
}

pub sound_changed : (o : Option Line) (q : Queues) (n : Name) (f : Line → Line) → get q.waiting n ≡ o → IsSound q → IsSound (changed_at o q n f)
sound_changed None q n f e sound = sound
sound_changed (Some line) q n f e sound = record {
  counted = counted_change q.waiting q.counts n (f line) sound.counted (ap is_some e);
  within = sound.within;
}

-- ---- two compared
abbrev SameLines : (Name → Bool) → List (Name × Line) → List (Name × Line) → Type 0
SameLines shown es fs = AreAlikeWhere shown (λ (x y : Line). x ≡ y) (λ q. lookup (name_eq q) es) (λ q. lookup (name_eq q) fs)

module _ (es fs : List (Name × Line)) (counts now : Counts) (m k : Queues) (one : queues_of es counts ≡ m) (two : queues_of fs now ≡ k) where
  pub same_pipes : counts ≡ now → SameLines (λ _. true) es fs → m ≡ k
  same_pipes same alike =
      sym one
      ∙ (λ i. record {
        waiting = seen_same_map name_cmp name_eq (λ (line : Line). line) name_total name_exact name_ties es fs alike i;
        counts = same i;
      })
      ∙ two

  pub pipes_same : m ≡ k → SameLines (λ _. true) es fs
  pipes_same e = same_map_alike name_cmp name_eq (λ (line : Line). line) name_total name_exact name_ties es fs (ap (λ (q : Queues). q.waiting) (one ∙ e ∙ sym two))

  pub same_where : (shown : Name → Bool) → SameLines shown es fs → (q : Name) → IsTrue (shown q) → get m.waiting q ≡ get k.waiting q
  same_where shown alike q s =
      ap (λ (r : Queues). get r.waiting q) (sym one)
      ∙ seen_where name_cmp name_eq (λ (line : Line). line) name_total name_exact name_ties shown es fs alike q s
      ∙ ap (λ (r : Queues). get r.waiting q) two

  pub where_same : (shown : Name → Bool) → ((q : Name) → IsTrue (shown q) → get m.waiting q ≡ get k.waiting q) → SameLines shown es fs
  where_same shown same =
      where_seen name_cmp name_eq (λ (line : Line). line) name_total name_exact name_ties shown es fs
      (λ q s. ap (λ (r : Queues). get r.waiting q) one ∙ same q s ∙ ap (λ (r : Queues). get r.waiting q) (sym two))
