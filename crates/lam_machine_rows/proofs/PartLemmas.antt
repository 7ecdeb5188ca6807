-- A row that reads some parts of a world and of a context serves its ask in each world and context with these parts. What a
-- row is given as capabilities are those of the context and the public ones together.
use Rattle.std.proofs.Common.{◌≡◌, ℕ, List, [], length, Option, None, Result, Ok, Err, IfOk, sym, ap, subst, ◌∙◌}
use Rattle.want_of_memory.specs.declared.NoMemory.{NoMemory}
use Rattle.flow_labels.specs.declared.Label.{Label}
use Rattle.capabilities.specs.declared.Caps.{Caps}
use Rattle.capabilities.specs.Changes.{joined}
use Rattle.lam_asks.specs.declared.answer.Outcome.{Outcome}
use Rattle.lam_value.specs.declared.names.Name.{Name}
use Rattle.lam_asks.specs.declared.ask.Ask.{Ask}
use Rattle.lam_asks.specs.declared.ask.Ask.TheVariants.{Join}
use Rattle.thread_steps.specs.Threads.{Context}
use Rattle.lam_machine_effects.specs.Worlds.{World, result_at}
use Rattle.lam_machine_effects.specs.Serves.{drops, does, under, unless}
use Rattle.lam_machine_effects.specs.Serving.{publicly, served_by, serve}
use Rattle.lam_machine_effects.specs.declared.stores.Stores.{Stores}
use Rattle.lam_machine_effects.specs.declared.served.Served.{Served}
use Rattle.lam_machine_effects.specs.Meaning.{DoesAs}
use Rattle.lam_machine_rows.proofs.RowLemmas.{plain_as}
use Rattle.lam_machine_rows.specs.Acting.{Acting}
use Rattle.lam_machine_rows.specs.Rows.{Serves, with_tags, with_heap, with_monitors, with_files, with_pipes, at_label, acting_by, at_depth}
use Rattle.lam_machine_rows.specs.Serves.{ReadsWorld}

-- what is promised of all rows
abbrev pub ServesAll : Ask → Stores → ℕ → Option Outcome → Acting → Served → Type 0
ServesAll a s n o who d = (w : World) (c : Context) → ReadsWorld w c a s n o who → DoesAs d (serve w c a)

-- an ask that is another one is served alike
pub moved : (a b : Ask) (s : Stores) (n : ℕ) (o : Option Outcome) (who : Acting) (d : Served) → b ≡ a → ServesAll a s n o who d → ServesAll b s n o who d
moved a b s n o who d e serves = subst (λ x. ServesAll x s n o who d) (sym e) serves

pub moved_ok : (a b : Ask) (s : Stores) (n : ℕ) (o : Option Outcome) (who : Acting) (r : Result Served NoMemory) → b ≡ a → IfOk r (ServesAll a s n o who) → IfOk r (ServesAll b s n o who)
moved_ok a b s n o who r e serves = subst (λ x. IfOk r (ServesAll x s n o who)) (sym e) serves

module _ (a : Ask) (s : Stores) (n : ℕ) (o : Option Outcome) (who : Acting) where
  -- a world and a context, holding what is public beside its own, have these parts
  abbrev pub Has : (World → World) → (Context → Context) → Type 0
  Has world context =
      (w : World) (c : Context) → ReadsWorld w c a s n o who → (world w ≡ w) × (context (publicly w.public c) ≡ publicly w.public c)

  pub one : (world : World → World) (context : Context → Context) (d : Served) → Has world context → Serves world context a d → ServesAll a s n o who d
  one world context d has serves w c h =
      let p = has w c h in
      let k = publicly w.public c in
      subst (λ x. DoesAs d (served_by w x a)) p.1 (subst (λ v. DoesAs d (served_by v (context k) a)) p.0 (serves w k))

  pub each : (world : World → World) (context : Context → Context) (r : Result Served NoMemory) → Has world context → IfOk r (Serves world context a) → IfOk r (ServesAll a s n o who)
  each world context (Ok d) has serves = one world context d has serves
  each world context (Err e) has serves = tt

  module _ (w : World) (c : Context) (h : ReadsWorld w c a s n o who) where
    pub tags_is : with_tags s.tags w ≡ w
    tags_is = ap (λ (t : Stores). with_tags t.tags w) (sym h.stores)

    pub heap_is : with_heap s.heap w ≡ w
    heap_is = ap (λ (t : Stores). with_heap t.heap w) (sym h.stores)

    pub monitors_is : with_monitors s.monitors w ≡ w
    monitors_is = ap (λ (t : Stores). with_monitors t.monitors w) (sym h.stores)

    pub files_is : with_files s.files w ≡ w
    files_is = ap (λ (t : Stores). with_files t.files w) (sym h.stores)

    pub pipes_is : with_pipes s.pipes w ≡ w
    pipes_is = ap (λ (t : Stores). with_pipes t.pipes w) (sym h.stores)

    pub label_is : (p : Label) → p ≡ who.label → at_label p (publicly w.public c) ≡ publicly w.public c
    label_is p e =
        ap (λ l. at_label l (publicly w.public c)) e ∙ ap (λ (x : Acting). at_label x.label (publicly w.public c)) (sym h.acting)

    -- capabilities beside the public ones of the stores
    pub caps_is : (p : Label) (k : Caps) → p ≡ who.label → k ≡ who.caps → acting_by p (joined k s.public) (publicly w.public c) ≡ publicly w.public c
    caps_is p k e f =
        (λ i. acting_by (e i) (joined (f i) s.public) (publicly w.public c))
        ∙ (ap (λ (x : Acting). acting_by x.label (joined x.caps s.public) (publicly w.public c)) (sym h.acting)
        ∙ ap (λ (t : Stores). acting_by c.label (joined c.caps t.public) (publicly w.public c)) (sym h.stores))

    pub depth_is : (p : Label) (k : Caps) (depth : ℕ) → p ≡ who.label → k ≡ who.caps → depth ≡ who.depth → at_depth p (joined k s.public) depth (publicly w.public c) ≡ publicly w.public c
    depth_is p k depth e f g =
        (λ i. at_depth (e i) (joined (f i) s.public) (g i) (publicly w.public c))
        ∙ (ap (λ (x : Acting). at_depth x.label (joined x.caps s.public) x.depth (publicly w.public c)) (sym h.acting)
        ∙ ap (λ (t : Stores). at_depth c.label (joined c.caps t.public) c.depth (publicly w.public c)) (sym h.stores))

  -- a row that gives back the monitors of the context
  pub released : (ns : List Name) (r : Result Served NoMemory) → ns ≡ who.held → IfOk r (λ d. DoesAs d (does (drops ns))) → IfOk r (λ d. (w : World) (c : Context) → ReadsWorld w c a s n o who → DoesAs d (under [] (unless None (does (drops c.held)))))
  released ns (Ok d) e h = λ w c k. plain_as d (does (drops c.held)) (subst (λ ms. DoesAs d (does (drops ms))) (e ∙ ap (λ (x : Acting). x.held) (sym k.acting)) h)
  released ns (Err e) f h = tt

  -- a row that reads how many threads there are
  pub among : (p : Label) (k : Caps) (r : Result Served NoMemory) → p ≡ who.label → k ≡ who.caps → IfOk r (λ d. (w : World) (c : Context) → length w.threads ≡ n → DoesAs d (served_by w (acting_by p (joined k s.public) c) a)) → IfOk r (ServesAll a s n o who)
  among p k (Ok d) e f serves = λ w c h. subst (λ x. DoesAs d (served_by w x a)) (caps_is w c h p k e f) (serves w (publicly w.public c) h.threads)
  among p k (Err x) e f serves = tt

-- a row that reads how a thread ended
pub joining : (t : ℕ) (s : Stores) (n : ℕ) (o : Option Outcome) (who : Acting) (p : Label) (r : Result Served NoMemory) → p ≡ who.label → IfOk r (λ d. (w : World) (c : Context) (u : ℕ) → result_at w u ≡ o → DoesAs d (served_by w (at_label p c) (Join u))) → IfOk r (ServesAll (Join t) s n o who)
joining t s n o who p (Ok d) e serves = λ w c h. subst (λ x. DoesAs d (served_by w x (Join t))) (label_is (Join t) s n o who w c h p e) (serves w (publicly w.public c) t h.ended)
joining t s n o who p (Err x) e serves = tt
