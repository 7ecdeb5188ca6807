-- What a seen actor is answered is told by what is seen.
use Rattle.std.proofs.Common.{◌≡◌, ℕ, true, List, [], ◌++◌, Option, Some, None, length, take, drop, refl, sym, ap, ◌∙◌}
use Rattle.std.specs.Prelude.{pos, not, nat_eq, is_some, unwrap_or, slice_get, if◌then◌else◌}
use Rattle.std.specs.Map.{lookup}
use Rattle.flow_labels.specs.declared.Label.{Label}
use Rattle.flow_labels.specs.declared.Denied.{Denied}
use Rattle.flow_labels.specs.Flow.{flows, public_label}
use Rattle.flow_labels.specs.Failing.{Test, first_failing, read_test, write_test, same_test}
use Rattle.lam_machine_effects.specs.Changes.{change_test, covers_test}
use Rattle.lam_value.specs.declared.names.Name.{Name}
use Rattle.lam_value.specs.declared.values.Value.{Value}
use Rattle.lam_value.specs.declared.values.Value.TheVariants.{Int, Bytes, Nothing, Obj, Arr, File, Dir, Pipe, Thread, Tag}
use Rattle.lam_value.specs.Shapes.{slots_of}
use Rattle.lam_value.specs.Homes.{Home, home_of, name_of, count_in}
use Rattle.lam_machine_effects.specs.Things.{most_things, slots_at, sort_of}
use Rattle.lam_machine_effects.specs.Holder.{Holder}
use Rattle.lam_machine_effects.specs.Held.{most_takings, takings, count_of}
use Rattle.labelled_files.specs.declared.directory.EntryKind.TheVariants as kind
use Rattle.labelled_files.specs.declared.files.FileFault.{FileFault}
use Rattle.labelled_files.specs.declared.files.FileFault.TheVariants as file_fault
use Rattle.labelled_files.specs.Entries.{Entries, text_eq, is_entry_name, name_of_kind}
use Rattle.labelled_files.specs.Trees.{most_entries, most_files}
use Rattle.lam_machine_effects.specs.Message.{Message}
use Rattle.lam_machine_effects.specs.MessageKind.TheVariants as sort_of_message
use Rattle.lam_machine_effects.specs.Messages.{front_of}
use Rattle.lam_machine_effects.specs.Queues.{most_pipes}
use Rattle.lam_machine_effects.specs.Fault.{Fault}
use Rattle.lam_machine_effects.specs.Fault.TheVariants.{Deep, HomeFull, NoEntry}
use Rattle.lam_machine_effects.specs.Answer.TheVariants.{Val}
use Rattle.lam_machine_effects.specs.Ask.{Ask}
use Rattle.lam_machine_effects.specs.Ask.TheVariants.{Read, New, CopyTo, Mint, MonEnter, MakeFile, MakeDir, OpenFile, OpenDir, Remove, FileRead, FileLength, MakePipe, Receive, ReceiveCaps, Spawn, Join}
use Rattle.lam_machine_effects.specs.Threads.{Context}
use Rattle.lam_machine_effects.specs.Limits.{most_tags, most_threads}
use Rattle.lam_machine_effects.specs.Worlds.{World}
use Rattle.lam_machine_effects.specs.Serves.{Effect, takes_tag, takes_monitor, adds_thing, adds_copy, adds_file, adds_dir, adds_pipe, adds_thread, removes, receives, a_thing, a_file, a_dir, a_pipe, a_thread, Served, answers, does, gives, makes, unless_denied, under, unless, full, of_thing, at_thing, name_in}
use Rattle.lam_machine_effects.specs.Serving.{slot_at, reference, renamed, adds, file_faults, where_none, found, absent, received, child_fault, value_of_end, served_by, publicly, serve}
use Rattle.lam_machine_laws.proofs.FlowLemmas.{flows_trans, each_passes, read_passes, same_passes, mint_passes}
use Rattle.lam_machine_laws.proofs.AlikeLemmas.{Alike}
use Rattle.lam_machine_laws.proofs.EffectLemmas.{count_same}

under_same : (t : Test) (d d' : Served) → (first_failing t ≡ None → d ≡ d') → under t d ≡ under t d'
unfolding under
under_same t d d' h = go (first_failing t) refl
  where
    go : (x : Option Denied) → first_failing t ≡ x → unless_denied x d ≡ unless_denied x d'
    go None e = h e
    go (Some x) e = refl

thing_same : (r : Value) (test : Name → Test) (f f' : Name → Option Fault) (go go' : Name → Served) → ((n : Name) → under (test n) (unless (f n) (go n)) ≡ under (test n) (unless (f' n) (go' n))) → under (of_thing r test) (unless (at_thing r f) (go (name_in r))) ≡ under (of_thing r test) (unless (at_thing r f') (go' (name_in r)))
unfolding under unless
thing_same (Obj n) test f f' go go' h = h n
thing_same (Arr n len) test f f' go go' h = h n
thing_same v test f f' go go' h = refl

-- what the acting label may read, whoever sees the label sees
read_seen : (o p x : Label) → flows p o ≡ true → first_failing (read_test p x) ≡ None → flows x o ≡ true
read_seen o p x s e = flows_trans x p o (read_passes p x e) s

same_seen : (o p x : Label) → flows p o ≡ true → first_failing (same_test p x) ≡ None → flows x o ≡ true
same_seen o p x s e = ap (λ l. flows l o) (same_passes p x e) ∙ s

-- services by the numbers that they hang on
abbrev created : Home → (Name → Value) → Effect → ℕ → List Value → Served
created home refer e k slots = unless (full k most_things HomeFull) (makes (refer (name_of home k)) e (a_thing (name_of home k) (refer (name_of home k)) slots))

abbrev opened : (Name → Value) → Option Name → Served
opened refer x = unless (where_none x NoEntry) (answers (Val (found refer x)))

-- why nothing is made in a directory, by its entries and the number that it would get
abbrev making_fault : Option Entries → ℕ → List ℕ → Option FileFault
making_fault x k text =
    if not (is_entry_name text) then Some file_fault.BadName
    else (if is_some (lookup (text_eq text) (unwrap_or x [])) then Some file_fault.Exists
    else (if nat_eq (length (unwrap_or x [])) most_entries then Some file_fault.DirFull
    else (if nat_eq k most_files then Some file_fault.HomeFull else None)))

rows_same : (o : Label) (w u : World) (c : Context) (a : Ask) → flows c.label o ≡ true → Alike o w u → served_by w c a ≡ served_by u c a
rows_same o w u c (Read r at) s l =
    thing_same r (λ n. read_test c.label n.own) (λ n. None) (λ n. None) (λ n. answers (Val (slot_at w.heap n at))) (λ n. answers (Val (slot_at u.heap n at))) (λ n. under_same _ _ _ (λ t.
    ap (λ (x : Option (List Value)). unless None (answers (Val (unwrap_or (slice_get (unwrap_or x []) at) Nothing)))) (l.heap.slots n (read_seen o c.label n.own s t))))
rows_same o w u c (New shape) s l =
    let home = home_of c.label c.label in
    ap (λ k. under [] (created home (reference shape) (adds_thing home (sort_of shape) (slots_of shape)) k (slots_of shape))) (count_same o w.heap.counts u.heap.counts home l.heap.counts s)
rows_same o w u c (CopyTo r own) s l =
    let there = home_of c.label own in
    thing_same r (λ n. read_test c.label n.own ++ (change_test c.caps n.own own ++ change_test c.caps c.label own))
    (λ n. full (count_in w.heap.counts there) most_things HomeFull) (λ n. full (count_in u.heap.counts there) most_things HomeFull)
    (λ n. adds w there (slots_at w.heap n) (renamed r) (adds_copy n there)) (λ n. adds u there (slots_at u.heap n) (renamed r) (adds_copy n there)) (λ n. under_same _ _ _ (λ t.
    let home = home_of c.label own in
    let k = count_same o w.heap.counts u.heap.counts home l.heap.counts s in
    let xs = l.heap.slots n (read_seen o c.label n.own s (each_passes (read_test c.label n.own) (change_test c.caps n.own own ++ change_test c.caps c.label own) t).0) in
    λ j. created home (renamed r) (adds_copy n home) (k j) (unwrap_or (xs j) [])))
rows_same o w u c Mint s l =
    under_same _ _ _ (λ t. ap (λ k. unless (full k most_tags HomeFull) (gives (Tag k) takes_tag)) (l.tags (ap (λ x. flows x o) (sym (mint_passes c.label t)) ∙ s)))
rows_same o w u c (MonEnter r) s l =
    thing_same r (λ n. same_test c.label n.own) (λ n. full (takings w.monitors n) most_takings Deep) (λ n. full (takings u.monitors n) most_takings Deep)
    (λ n. does (takes_monitor n)) (λ n. does (takes_monitor n)) (λ n. under_same _ _ _ (λ t.
    ap (λ (x : Option Holder). unless (full (count_of x) most_takings Deep) (does (takes_monitor n))) (l.monitors n (same_seen o c.label n.own s t))))
rows_same o w u c (MakeFile d text own) s l =
    under_same _ _ _ (λ t.
    let home = home_of c.label own in
    let k = count_same o w.files.counts u.files.counts home l.files.counts s in
    let es = l.files.dirs d (read_seen o c.label d.own s (each_passes (read_test c.label d.own) (write_test c.label d.own ++ (write_test c.label own ++ change_test c.caps c.label own)) t).0) in
    λ j. unless (file_faults (making_fault (es j) (k j) text)) (makes (File (name_of home (k j))) (adds_file d text home) (a_file (name_of home (k j)))))
rows_same o w u c (MakeDir d text own) s l =
    under_same _ _ _ (λ t.
    let home = home_of c.label own in
    let k = count_same o w.files.counts u.files.counts home l.files.counts s in
    let es = l.files.dirs d (read_seen o c.label d.own s (each_passes (read_test c.label d.own) (write_test c.label d.own ++ (write_test c.label own ++ change_test c.caps c.label own)) t).0) in
    λ j. unless (file_faults (making_fault (es j) (k j) text)) (makes (Dir (name_of home (k j))) (adds_dir d text home) (a_dir (name_of home (k j)))))
rows_same o w u c (OpenFile d text) s l =
    under_same _ _ _ (λ t.
    ap (λ (x : Option Entries). opened (λ n. File n) (name_of_kind kind.File (lookup (text_eq text) (unwrap_or x [])))) (l.files.dirs d (read_seen o c.label d.own s t)))
rows_same o w u c (OpenDir d text) s l =
    under_same _ _ _ (λ t.
    ap (λ (x : Option Entries). opened (λ n. Dir n) (name_of_kind kind.Dir (lookup (text_eq text) (unwrap_or x [])))) (l.files.dirs d (read_seen o c.label d.own s t)))
rows_same o w u c (Remove d text) s l =
    under_same _ _ _ (λ t.
    ap (λ (x : Option Entries). unless (absent (lookup (text_eq text) (unwrap_or x []))) (does (removes d text)))
    (l.files.dirs d (read_seen o c.label d.own s (each_passes (read_test c.label d.own) (write_test c.label d.own) t).0)))
rows_same o w u c (FileRead f at n) s l =
    under_same _ _ _ (λ t. ap (λ (x : Option (List ℕ)). unless None (answers (Val (Bytes (take n (drop at (unwrap_or x []))))))) (l.files.files f (read_seen o c.label f.own s t)))
rows_same o w u c (FileLength f) s l =
    under_same _ _ _ (λ t. ap (λ (x : Option (List ℕ)). unless None (answers (Val (Int (pos (length (unwrap_or x []))))))) (l.files.files f (read_seen o c.label f.own s t)))
rows_same o w u c (MakePipe own) s l =
    let home = home_of c.label own in
    under_same _ _ _ (λ t.
    ap (λ k. unless (full k most_pipes HomeFull) (makes (Pipe (name_of home k)) (adds_pipe home) (a_pipe (name_of home k)))) (count_same o w.pipes.counts u.pipes.counts home l.pipes.counts s))
rows_same o w u c (Receive p) s l =
    under_same _ _ _ (λ t.
    ap (λ (x : Option (List Message)). unless None (gives (received (front_of sort_of_message.Bytes (unwrap_or x []))) (receives p sort_of_message.Bytes))) (l.pipes.waiting p (same_seen o c.label p.own s t)))
rows_same o w u c (ReceiveCaps p) s l =
    under_same _ _ _ (λ t.
    ap (λ (x : Option (List Message)). unless None (gives (received (front_of sort_of_message.Caps (unwrap_or x []))) (receives p sort_of_message.Caps))) (l.pipes.waiting p (same_seen o c.label p.own s t)))
rows_same o w u c (Spawn unit args caps) s l =
    under_same _ _ _ (λ t.
    ap (λ k. unless (full k most_threads HomeFull) (makes (Thread k) (adds_thread unit args caps) (a_thread k)))
    (l.threads.count (same_seen o c.label public_label s (each_passes (same_test c.label public_label) (covers_test c.caps caps) t).0)))
rows_same o w u c (Join t) s l =
    under_same _ _ _ (λ e. ap (λ x. unless (child_fault x) (answers (Val (value_of_end x)))) (l.threads.results (read_seen o c.label public_label s e) t))
rows_same o w u c a s l = refl

-- with the same public capabilities a context counts as holding the same
pub serve_same : (o : Label) (w u : World) (c : Context) (a : Ask) → flows c.label o ≡ true → Alike o w u → serve w c a ≡ serve u c a
serve_same o w u c a s l = rows_same o w u (publicly w.public c) a s l ∙ ap (λ k. served_by u (publicly k c) a) l.public
