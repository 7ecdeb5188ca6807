-- What a turn made, as its event and the world after it tell.
use Rattle.std.specs.Prelude.{◌≡◌, ℕ, false, not, List, [], ◌∷◌, Option, Some, None}
use Rattle.flow_labels.specs.declared.Label.{Label}
use Rattle.flow_labels.specs.Flow.{flows, seen}
use Rattle.capabilities.specs.Changes.{used}
use Rattle.lam_value.specs.declared.values.Value.{Value}
use Rattle.lam_value.specs.declared.values.Value.TheVariants.{Obj, Arr}
use Rattle.labelled_heap.specs.Things.{Things, slots_at}
use Rattle.lam_asks.specs.declared.ask.Ask.{Ask}
use Rattle.lam_asks.specs.declared.ask.Ask.TheVariants.{CopyTo, Enter}
use Rattle.lam_asks.specs.declared.answer.Answer.{Answer}
use Rattle.lam_asks.specs.declared.answer.Answer.TheVariants.{Entered, Val}
use Rattle.lam_asks.specs.declared.answer.What.{What}
use Rattle.lam_asks.specs.declared.answer.What.TheVariants.{Private, Asked}
use Rattle.lam_bytecode.specs.Codes.{CodeTree}
use Rattle.thread_steps.specs.Threads.{Context}
use Rattle.lam_machine_terms.specs.Worlds.{World, contexts_at}
use Rattle.lam_machine_terms.specs.Turns.{Moment, step}
use Rattle.lam_machine_terms.specs.Views.{shows, is_release, used_by}
use Rattle.audit_log_notes.specs.Notes.{content_in}
use Rattle.audit_log_notes.specs.declared.Content.{Content}
use Rattle.audit_log_notes.specs.declared.Content.TheVariants as content

-- the label of a region that was entered, or of a copy
abbrev pub label_by : Answer → Ask → Option Label
label_by Entered (Enter label caps region args) = Some label
label_by (Val v) (CopyTo r own) = Some own
label_by answer ask = None

abbrev pub product_label : What → Option Label
product_label Private = None
product_label (Asked ask answer) = label_by answer ask

abbrev pub depth_in : List Context → ℕ
depth_in [] = 0
depth_in (c ∷ rest) = c.depth

-- how many regions a thread stands in
abbrev pub depth_at : World → ℕ → ℕ
depth_at w t = depth_in (contexts_at w t)

-- the slots of the thing that a value leads to
abbrev pub slots_under : Things → Value → List Value
slots_under h (Obj n) = slots_at h n
slots_under h (Arr n len) = slots_at h n
slots_under h v = []

-- all of what an ask of a thread made, in the world after it
abbrev pub product_by : World → ℕ → Answer → Ask → Option Content
product_by w t Entered (Enter label caps region args) = Some (content.Context label caps (depth_at w t) region args)
product_by w t (Val v) (CopyTo r own) = Some (content.Thing v (slots_under w.heap v))
product_by w t answer ask = None

abbrev pub product : World → ℕ → What → Option Content
product w t Private = None
product w t (Asked ask answer) = product_by w t answer ask

-- what a turn made with this label is told whole, who may see it, and what it takes to release it
pub record IsProduct (m : Moment) (own : Label) : Type 0 where
  pub content : content_in m.made ≡ product m.world m.event.thread m.event.what
  pub by : used_by m.event.label m.made ≡ Some (used m.event.label own)
  pub shown : (o : Label) → shows o m.made ≡ seen own o
  pub down : is_release m ≡ not (flows m.event.label own)

-- and where no label is told, nothing is released
abbrev pub IsToldBy : Moment → Option Label → Type 0
IsToldBy m None = is_release m ≡ false
IsToldBy m (Some own) = IsProduct m own

abbrev pub ProductsAreTold : CodeTree → Type 0
ProductsAreTold code = (w : World) (t : ℕ) (m : Moment) → step code w t ≡ Some m → IsToldBy m (product_label m.event.what)
