-- What a release made is known from what is told of it.
use Rattle.std.proofs.Common.{◌≡◌, ℕ, List, Option, Some, None, refl, sym, ap, ◌∙◌, subst}
use Rattle.flow_labels.specs.declared.Label.{Label}
use Rattle.capabilities.specs.declared.Caps.{Caps}
use Rattle.lam_value.specs.declared.names.Name.{Name}
use Rattle.lam_value.specs.declared.values.Value.{Value}
use Rattle.lam_value.specs.declared.values.Value.TheVariants.{Arr}
use Rattle.lam_value.specs.Homes.{home_of, name_of, count_in}
use Rattle.lam_asks.specs.declared.answer.Answer.{Answer}
use Rattle.lam_asks.specs.declared.answer.Answer.TheVariants.{Entered, Val}
use Rattle.lam_asks.specs.declared.answer.What.{What}
use Rattle.lam_asks.specs.declared.answer.What.TheVariants.{Private, Asked}
use Rattle.lam_asks.specs.declared.ask.Ask.{Ask}
use Rattle.lam_asks.specs.declared.ask.Ask.TheVariants.{CopyTo, Enter}
use Rattle.lam_bytecode.specs.Codes.{CodeTree}
use Rattle.thread_steps.specs.Threads.{Context, Thread}
use Rattle.thread_steps.specs.Next.{Next, goes, asks, stuck, next_of}
use Rattle.lam_machine_terms.specs.Worlds.{World}
use Rattle.lam_machine_terms.specs.Serves.{Made, a_region, a_thing, Served, name_in}
use Rattle.lam_machine_terms.specs.Serving.{renamed, publicly, serve}
use Rattle.lam_machine_terms.specs.Turns.{is_ready, Moment, step, served, turn_by}
use Rattle.lam_machine_laws.proofs.ThreadLemmas.{some_inj}
use Rattle.lam_machine_laws.proofs.JudgedLemmas.{judged_by}
use Rattle.lam_machine_laws.proofs.TurnLemmas.{acts, only}
use Rattle.audit_log_notes.specs.Notes.{content_in}
use Rattle.audit_log_notes.specs.declared.Content.{Content}
use Rattle.audit_log_notes.specs.declared.Content.TheVariants as content
use Rattle.lam_machine_replay.specs.Told.{label_by, product_label, product_by, product}
use Rattle.lam_machine_replay.proofs.ProductLemmas.{other_label}
use Rattle.pair_check_agenda.specs.Agendas.{made_of}

-- the value that leads to a thing has its name
abbrev pub IsNamed : Option Made → Type 0
IsNamed (Some (a_thing n v slots)) = name_in v ≡ n
IsNamed m = Unit {0}

-- where a label is told
abbrev pub IsNamedBy : Option Label → Option Made → Type 0
IsNamedBy None m = Unit {0}
IsNamedBy (Some own) m = IsNamed m

-- what was made is all in what is told of it
pub made_told : (m : Option Made) → IsNamed m → (c : Content) → content_in m ≡ Some c → m ≡ Some (made_of c)
made_told (Some (a_region l k depth region args)) h c e = ap (λ (x : Content). Some (made_of x)) (some_inj (content.Context l k depth region args) c e)
made_told (Some (a_thing n v slots)) h c e =
    ap (λ (k : Name). Some (a_thing k v slots)) (sym h) ∙ ap (λ (x : Content). Some (made_of x)) (some_inj (content.Thing v slots) c e)
made_told m h c e = absurd cc

-- where a label is told, so is a content
content_by : (w : World) (t : ℕ) (x : Answer) (a : Ask) (own : Label) → label_by x a ≡ Some own → (c : Content) × (product_by w t x a ≡ Some c)
content_by w t Entered (Enter l k region args) own e = (_, refl)
content_by w t (Val v) (CopyTo r l) own e = (_, refl)
content_by w t x a own e = absurd cc

pub content_told : (w : World) (t : ℕ) (what : What) (own : Label) → product_label what ≡ Some own → (c : Content) × (product w t what ≡ Some c)
content_told w t Private own e = absurd cc
content_told w t (Asked a x) own e = content_by w t x a own e

-- ---- each ask

renamed_name : (v : Value) (n : Name) → name_in (renamed v n) ≡ n
renamed_name (Arr m len) n = refl
renamed_name v n = refl

module _ (w : World) (c : Context) where
  abbrev Names : Ask → Served → Type 0
  Names a d = IsNamedBy (label_by d.answer a) d.made

  entry_named : (l : Label) (k : Caps) (region : ℕ) (args : List Value) → Names (Enter l k region args) (serve w c (Enter l k region args))
  entry_named l k region args = judged_by (Names (Enter l k region args)) w (publicly w.public c) (Enter l k region args) (λ x e. tt) (λ f e g. tt) (λ e g. tt)

  copy_named : (r : Value) (l : Label) → Names (CopyTo r l) (serve w c (CopyTo r l))
  copy_named r l =
      let home = home_of c.label l in
      judged_by (Names (CopyTo r l)) w (publicly w.public c) (CopyTo r l) (λ x e. tt) (λ f e g. tt) (λ e g. renamed_name r (name_of home (count_in w.heap.counts home)))

  row_named : (a : Ask) → Names a (serve w c a)
  row_named (CopyTo r l) = copy_named r l
  row_named (Enter l k region args) = entry_named l k region args
  row_named a = subst (λ x. IsNamedBy x (serve w c a).made) (sym (other_label (serve w c a).answer a refl)) tt

next_named : (code : CodeTree) (w : World) (t : ℕ) (th : Thread) (c : Context) (rest : List Context) (nx : Next) (m : Moment) → turn_by code w t th c rest nx ≡ Some m → IsNamedBy (product_label m.event.what) m.made
next_named code w t th c rest (goes i) m h = subst (λ (x : Moment). IsNamedBy (product_label x.event.what) x.made) (some_inj _ m h) tt
next_named code w t th c rest (asks a i) m h =
    subst (λ (x : Moment). IsNamedBy (product_label x.event.what) x.made) (only (is_ready w t c a) (served code w t th c rest a i (serve w c a)) m h).1 (row_named w c a)
next_named code w t th c rest stuck m h = absurd cc

pub products_named : (code : CodeTree) (w : World) (t : ℕ) (m : Moment) → step code w t ≡ Some m → IsNamedBy (product_label m.event.what) m.made
products_named code w t m h =
    let a = acts code w t m h in
    next_named code w t a.thread a.top a.rest (next_of code a.top) m a.gives
