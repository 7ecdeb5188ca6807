-- What is reached and seen at the end of the one run is reached at the end of the other.
use Rattle.std.proofs.Common.{◌≡◌, ℕ, Bool, true, false, cond, List, [], ◌∷◌, length, Option, None, refl, sym, ap, ◌∙◌, arith}
use Rattle.std.specs.Prelude.{IsTrue, take, slice_get}
use Rattle.std.specs.Option.{unwrap_or}
use Rattle.std.specs.Map.{lookup}
use Rattle.std.specs.FinMap.{FinMap, get, get-retain_keys, same_map}
use Rattle.std.proofs.lemmas.Option.{same_Some}
use Rattle.flow_labels.specs.declared.Label.{Label}
use Rattle.flow_labels.specs.Flow.{seen}
use Rattle.lam_value.specs.declared.names.Name.{Name}
use Rattle.lam_value.specs.Names.{name_cmp}
use Rattle.lam_value.proofs.Keys.{name_total, name_exact}
use Rattle.labelled_files.specs.declared.directory.Target.{Target}
use Rattle.labelled_files.specs.declared.directory.EntryKind.{EntryKind}
use Rattle.labelled_files.specs.declared.directory.EntryKind.TheVariants.{File, Dir}
use Rattle.labelled_files.specs.Entries.{Entries, text_eq}
use Rattle.labelled_files.specs.Trees.{Tree, lives_as}
use Rattle.lam_bytecode.specs.Codes.{CodeTree}
use Rattle.lam_machine_terms.specs.Worlds.{World}
use Rattle.lam_machine_terms.specs.Turns.{moments, replay, IsRun}
use Rattle.lam_machine_terms.specs.Views.{View, view, shown, shown_counts, Agree, agenda, views}
use Rattle.lam_machine_laws.specs.Isolation.{AreWellLabelled}
use Rattle.lam_machine_laws.proofs.WholeLemmas.{isolated, steady}
use Rattle.world_save_laws.specs.Reached.{IsAt, IsReached, HoldsReached}
use Rattle.world_save_laws.specs.Next.{GoesOn}
use Rattle.world_save_laws.specs.Agreeing.{EndsWell, NextStartsAgree}
use Rattle.world_save_laws.proofs.PutLemmas.{nothing}

-- ---- what is shown of a map

module _ {X : Type 0} (o : Label) where
  got : (m : FinMap name_cmp X) (q : Name) → get (shown o m) q ≡ cond (seen q.own o) (get m q) None
  got m q = get-retain_keys m (λ (n : Name). seen n.own o) q (λ x e. ap (λ (n : Name). seen n.own o) (sym (name_exact q x e)))

  got_seen : (m : FinMap name_cmp X) (q : Name) → IsTrue (seen q.own o) → get (shown o m) q ≡ get m q
  got_seen m q sees = got m q ∙ ap (λ b. cond b (get m q) None) sees

  -- equal where it is seen
  same_seen : (m n : FinMap name_cmp X) → shown o m ≡ shown o n → (q : Name) → IsTrue (seen q.own o) → get m q ≡ get n q
  same_seen m n e q sees = sym (got_seen m q sees) ∙ ap (λ k. get k q) e ∙ got_seen n q sees

  shown_same : (m n : FinMap name_cmp X) → ((q : Name) → IsTrue (seen q.own o) → get m q ≡ get n q) → shown o m ≡ shown o n
  shown_same m n each = same_map name_total name_exact (shown o m) (shown o n) (λ q. got m q ∙ by q (seen q.own o) refl ∙ sym (got n q))
    where
      by : (q : Name) (b : Bool) → seen q.own o ≡ b → cond b (get m q) None ≡ cond b (get n q) None
      by q true sees = each q sees
      by q false e = refl

-- ---- what is reached

-- two ends that look the same to the observer
record LookAlike (o : Label) (t u : Tree) : Type 0 where
  dirs : (q : Name) → IsTrue (seen q.own o) → get t.dirs q ≡ get u.dirs q
  files : (q : Name) → IsTrue (seen q.own o) → get t.files q ≡ get u.files q
  root : t.root ≡ u.root

turned : (o : Label) (t u : Tree) → LookAlike o t u → LookAlike o u t
turned o t u a = record { dirs = λ q s. sym (a.dirs q s); files = λ q s. sym (a.files q s); root = sym a.root }

module _ (o : Label) (t u : Tree) (ends : EndsWell o t) (alike : LookAlike o t u) where
  -- a seen thing that the one root reaches, the other reaches too: what names it is seen, and reached
  both_reach : (way : List (List ℕ)) (kind : EntryKind) (n : Name) → IsAt t way kind n → IsTrue (seen n.own o) → IsAt u way kind n
  both_reach [] kind n at sees = (at.0, at.1 ∙ alike.root)
  both_reach (text ∷ way) kind n at sees =
      let target : Target = record { kind = kind; name = n } in
      let named = ends.named at.0 text target at.1.1 sees in
      let one = ((ends.whole).forest).once at.0 named.dir text named.text target named.target at.1.1 named.leads (sym named.is) in
      let above : IsTrue (seen (at.0).own o) = ap (λ (d : Name). seen d.own o) one.0 ∙ named.sees in
      (at.0, (both_reach way Dir at.0 at.1.0 above, ap (λ (x : Option Entries). lookup (text_eq text) (unwrap_or x [])) (sym (alike.dirs at.0 above)) ∙ at.1.1))

module _ (o : Label) (t u v w : Tree) (ends : EndsWell o t) (ends' : EndsWell o u) (alike : LookAlike o t u) (h : HoldsReached t v) (k : HoldsReached u w) where
  crossed : (kind : EntryKind) (n : Name) → IsTrue (seen n.own o) → IsTrue (lives_as kind v n) → IsReached u kind n
  crossed kind n sees lives = let r = h.only kind n lives in (r.0, both_reach o t u ends alike r.0 kind n r.1 sees)

  back : (kind : EntryKind) (n : Name) → IsTrue (seen n.own o) → IsTrue (lives_as kind w n) → IsReached t kind n
  back kind n sees lives = let r = k.only kind n lives in (r.0, both_reach o u t ends' (turned o t u alike) r.0 kind n r.1 sees)

  dirs_same : (n : Name) → IsTrue (seen n.own o) → get v.dirs n ≡ get w.dirs n
  dirs_same n sees = by (lives_as Dir v n) refl (lives_as Dir w n) refl
    where
      by : (a : Bool) → lives_as Dir v n ≡ a → (b : Bool) → lives_as Dir w n ≡ b → get v.dirs n ≡ get w.dirs n
      by true e b f = h.dirs n (h.only Dir n e) ∙ alike.dirs n sees ∙ sym (k.dirs n (crossed Dir n sees e))
      by false e true f = h.dirs n (back Dir n sees f) ∙ alike.dirs n sees ∙ sym (k.dirs n (k.only Dir n f))
      by false e false f = nothing (get v.dirs n) e ∙ sym (nothing (get w.dirs n) f)

  files_same : (n : Name) → IsTrue (seen n.own o) → get v.files n ≡ get w.files n
  files_same n sees = by (lives_as File v n) refl (lives_as File w n) refl
    where
      by : (a : Bool) → lives_as File v n ≡ a → (b : Bool) → lives_as File w n ≡ b → get v.files n ≡ get w.files n
      by true e b f = h.files n (h.only File n e) ∙ alike.files n sees ∙ sym (k.files n (crossed File n sees e))
      by false e true f = h.files n (back File n sees f) ∙ alike.files n sees ∙ sym (k.files n (k.only File n f))
      by false e false f = nothing (get v.files n) e ∙ sym (nothing (get w.files n) f)

-- ---- the ends

module _ (code : CodeTree) (o : Label) (s s' : World) (turns turns' : List ℕ) (well : AreWellLabelled s) (well' : AreWellLabelled s') (agree : Agree o s s') (run : IsRun code turns s) (run' : IsRun code turns' s') (agendas : agenda o (moments code turns s) ≡ agenda o (moments code turns' s')) where
  abbrev last : World
  last = replay code turns s

  abbrev last' : World
  last' = replay code turns' s'

  -- the worlds at the ends look the same
  ends_look : view o last ≡ view o last'
  ends_look =
      let n = length (agenda o (moments code turns s)) in
      let same : n ≡ length (agenda o (moments code turns' s')) = ap length agendas in
      let look = isolated code o s s' turns turns' n well well' agree run run' (omega arith) (omega arith) (ap (take n) agendas) in
      same_Some (view o last) (view o last')
      (sym (steady code o s turns well run) ∙ look.states ∙ ap (slice_get (views o s' (moments code turns' s'))) same ∙ steady code o s' turns' well' run')

  module _ (ends : EndsWell o last.files) (ends' : EndsWell o last'.files) (v v' : World) (g : GoesOn s last.files v) (g' : GoesOn s' last'.files v') where
    alike : LookAlike o last.files last'.files
    alike =
        record {
          dirs = same_seen o last.files.dirs last'.files.dirs (ap (λ (x : View). x.dirs) ends_look);
          files = same_seen o last.files.files last'.files.files (ap (λ (x : View). x.files) ends_look);
          root = (ends.whole).root ∙ sym (ends'.whole).root;
        }

    gone_on : v ≡ record s { files = v.files }
    gone_on = λ i. record { names = g.names i; public = g.public i; next_tag = g.next_tag i; heap = g.heap i; monitors = g.monitors i; files = v.files; pipes = g.pipes i; threads = g.threads i }

    gone_on' : v' ≡ record s' { files = v'.files }
    gone_on' = λ i. record { names = g'.names i; public = g'.public i; next_tag = g'.next_tag i; heap = g'.heap i; monitors = g'.monitors i; files = v'.files; pipes = g'.pipes i; threads = g'.threads i }

    counts_same : shown_counts o v.files.counts ≡ shown_counts o v'.files.counts
    counts_same = ap (shown_counts o) (g.files).counts ∙ ap (λ (x : View). x.file_counts) ends_look ∙ sym (ap (shown_counts o) (g'.files).counts)

    between : view o (record s { files = v.files }) ≡ view o (record s' { files = v'.files })
    between =
        let dirs = shown_same o v.files.dirs v'.files.dirs (dirs_same o last.files last'.files v.files v'.files ends ends' alike g.files g'.files) in
        let files = shown_same o v.files.files v'.files.files (files_same o last.files last'.files v.files v'.files ends ends' alike g.files g'.files) in
        let counts = counts_same in
        let seen = agree.views in
        λ i. record {
          slots = (seen i).slots;
          monitors = (seen i).monitors;
          dirs = dirs i;
          files = files i;
          pipes = (seen i).pipes;
          heap_counts = (seen i).heap_counts;
          file_counts = counts i;
          pipe_counts = (seen i).pipe_counts;
          contexts = (seen i).contexts;
          next_tag = (seen i).next_tag;
          threads = (seen i).threads;
          results = (seen i).results;
        }

    agrees : Agree o v v'
    agrees =
        record {
          names = g.names ∙ agree.names ∙ sym g'.names;
          public = g.public ∙ agree.public ∙ sym g'.public;
          views = ap (view o) gone_on ∙ between ∙ sym (ap (view o) gone_on');
        }

pub starts_agree : (code : CodeTree) (o : Label) → NextStartsAgree code o
starts_agree code o s s' turns turns' well well' agree run run' agendas ends ends' v v' g g' = agrees code o s s' turns turns' well well' agree run run' agendas ends ends' v v' g g'
