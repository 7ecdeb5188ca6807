-- Frames that take a value.
use Rattle.std.proofs.Common.{◌≡◌, ℕ, ◌++◌, true, List, [], ◌∷◌, None, refl, sym, ap, subst, inr, arith}
use denote.Bor.{Bor}
use Rattle.lam_operators.specs.declared.BinaryOp.{BinaryOp}
use Rattle.lam_operators.specs.declared.BinaryOp.TheVariants as binary
use Rattle.lam_operators.specs.declared.UnaryOp.{UnaryOp}
use Rattle.lam_value.specs.declared.values.Value.{Value}
use Rattle.lam_value.specs.declared.values.Value.TheVariants.{Bool as Truth, Nothing}
use Rattle.lam_value.specs.declared.shapes.Kind.{Kind}
use Rattle.lam_asks.specs.declared.fault.Fault.TheVariants.{Denied}
use Rattle.lam_asks.specs.declared.answer.Outcome.TheVariants as outcome
use Rattle.lam_asks.specs.declared.ask.Ask.TheVariants as ask
use Rattle.thread_steps.specs.Operators.{operator, prefix}
use Rattle.lam_resolve_tree.specs.declared.Expr.{Expr}
use Rattle.lam_resolve_tree.specs.Tree.{expr_tree, ResolvedTree}
use Rattle.lam_meaning.specs.Trees.{asked, on_end, purely, ask_value, ask_unit}
use Rattle.lam_meaning.specs.Means.{on_number, makes_array, throws}
use Rattle.source_walk_state.specs.declared.Sort.{Sort as Written}
use Rattle.source_walk_state.specs.declared.Using.{Using}
use Rattle.source_walk_state.specs.declared.Using.TheVariants as using
use Rattle.source_walk_state.specs.declared.BeforeExpr.TheVariants as expr
use Rattle.source_walk_state.specs.declared.Frame.TheVariants as frame
use Rattle.source_walk_state.specs.declared.Control.{Control}
use Rattle.source_walk_state.specs.declared.Control.TheVariants as control
use Rattle.source_walk_state.specs.Meaning.{sort_seen, valued, after, stops_at}
use Rattle.source_walk_state.proofs.Going.{goes_right, goes_element, goes_field, goes_index, goes_set}
use Rattle.source_walk_parts.specs.declared.access.Access.{Access}
use Rattle.source_walk_parts.specs.declared.access.Way.TheVariants.{Reads, Writes}
use Rattle.source_walk_parts.specs.Accesses.{field_access, element_access, access_tree}
use Rattle.source_walk_parts.specs.Controls.{pure_control, array_control, thrown_control}
use Rattle.source_walk_parts.specs.States.{State, pushed, local_set, left_at, Goes, IsWaiting, IsLeft}
use Rattle.source_walk_parts.proofs.Steps.{pure_left, array_left, thrown_left, goes_by}
use Rattle.source_walk_parts.proofs.Reached.{field_tree, element_tree}
use Rattle.source_walk_go.specs.Choices.{and_control, or_control}
use Rattle.source_walk_go.proofs.Waiting.{waits_goes}

module _ (r : ResolvedTree) (s : State) (v : Value) where
  -- with no frame, the thread ends
  pub gives_end : s.frames ≡ [] → Goes r (control.Give v) s (control.End (outcome.Value Nothing)) s
  unfolding left_at on_end
  gives_end e =
      subst (λ fs. Goes r (control.Give v) (record { frames = fs; place = s.place; units = s.units; own = s.own }) (control.End (outcome.Value Nothing)) (record { frames = fs; place = s.place; units = s.units; own = s.own })) (sym e)
      (record { left = refl; less = inr (refl, omega arith) })

  pub to_prefix : (op : UnaryOp) (d : Control) → d ≡ pure_control (prefix op v) → Goes r (control.Give v) (pushed s (frame.Prefix op)) d s
  unfolding left_at on_end
  to_prefix op d e = rw e (goes_by r s v (frame.Prefix op) (purely s.units s.own (prefix op v)) 1 (pure_control (prefix op v)) s refl (omega arith) (pure_left r s (prefix op v)))

  pub to_operator : (op : BinaryOp) (left : Value) (d : Control) → d ≡ pure_control (operator op left v) → Goes r (control.Give v) (pushed s (frame.Operate op left)) d s
  unfolding left_at on_end
  to_operator op left d e =
      rw e (goes_by r s v (frame.Operate op left) (purely s.units s.own (operator op left v)) 1 (pure_control (operator op left v)) s refl (omega arith) (pure_left r s (operator op left v)))

  pub to_field : (at : ℕ) (q : Written) (d : Control) (t : State) → IsLeft r (access_tree (field_access Reads s.place.label v at) s.units s.own (λ x at. ask_value (asked (sort_seen q) (ask.Read x at)) s.units s.own)) 1 s d t → Goes r (control.Give v) (pushed s (frame.Field at q)) d t
  unfolding left_at on_end
  to_field at q d t h =
      goes_by r s v (frame.Field at q) (access_tree (field_access Reads s.place.label v at) s.units s.own (λ x at. ask_value (asked (sort_seen q) (ask.Read x at)) s.units s.own)) 1 d t
      (ap (λ x. on_end x (after r s.frames s.place)) (sym (field_tree s.units s.own (λ x at. ask_value (asked (sort_seen q) (ask.Read x at)) s.units s.own) Reads s.place.label v at))) (omega arith) h

  pub to_element : (array : Value) (q : Written) (d : Control) (t : State) → IsLeft r (access_tree (element_access Reads s.place.label array v) s.units s.own (λ x at. ask_value (asked (sort_seen q) (ask.Read x at)) s.units s.own)) 1 s d t → Goes r (control.Give v) (pushed s (frame.Element array q)) d t
  unfolding left_at on_end
  to_element array q d t h =
      goes_by r s v (frame.Element array q) (access_tree (element_access Reads s.place.label array v) s.units s.own (λ x at. ask_value (asked (sort_seen q) (ask.Read x at)) s.units s.own)) 1 d t
      (ap (λ x. on_end x (after r s.frames s.place)) (sym (element_tree s.units s.own (λ x at. ask_value (asked (sort_seen q) (ask.Read x at)) s.units s.own) Reads s.place.label array v))) (omega arith) h

  pub to_set_field : (at : ℕ) (object : Value) (d : Control) (t : State) → IsLeft r (valued (access_tree (field_access Writes s.place.label object at) s.units s.own (λ x at. ask_unit (ask.Write x at v) s.units s.own))) 1 s d t → Goes r (control.Give v) (pushed s (frame.SetField at object)) d t
  unfolding left_at on_end
  to_set_field at object d t h =
      goes_by r s v (frame.SetField at object) (valued (access_tree (field_access Writes s.place.label object at) s.units s.own (λ x at. ask_unit (ask.Write x at v) s.units s.own))) 1 d t
      (ap (λ x. on_end (valued x) (after r s.frames s.place)) (sym (field_tree s.units s.own (λ x at. ask_unit (ask.Write x at v) s.units s.own) Writes s.place.label object at))) (omega arith) h

  pub to_set_element : (array index : Value) (d : Control) (t : State) → IsLeft r (valued (access_tree (element_access Writes s.place.label array index) s.units s.own (λ x at. ask_unit (ask.Write x at v) s.units s.own))) 1 s d t → Goes r (control.Give v) (pushed s (frame.SetElement array index)) d t
  unfolding left_at on_end
  to_set_element array index d t h =
      goes_by r s v (frame.SetElement array index) (valued (access_tree (element_access Writes s.place.label array index) s.units s.own (λ x at. ask_unit (ask.Write x at v) s.units s.own))) 1 d t
      (ap (λ x. on_end (valued x) (after r s.frames s.place)) (sym (element_tree s.units s.own (λ x at. ask_unit (ask.Write x at v) s.units s.own) Writes s.place.label array index))) (omega arith) h

  pub to_field_by : (at : ℕ) (q : Written) (a : Access) → a ≡ field_access Reads s.place.label v at → (d : Control) (t : State) → IsLeft r (access_tree a s.units s.own (λ x at. ask_value (asked (sort_seen q) (ask.Read x at)) s.units s.own)) 1 s d t → Goes r (control.Give v) (pushed s (frame.Field at q)) d t
  to_field_by at q a e d t h = to_field at q d t (subst (λ x. IsLeft r (access_tree x s.units s.own (λ x at. ask_value (asked (sort_seen q) (ask.Read x at)) s.units s.own)) 1 s d t) e h)

  pub to_element_by : (array : Value) (q : Written) (a : Access) → a ≡ element_access Reads s.place.label array v → (d : Control) (t : State) → IsLeft r (access_tree a s.units s.own (λ x at. ask_value (asked (sort_seen q) (ask.Read x at)) s.units s.own)) 1 s d t → Goes r (control.Give v) (pushed s (frame.Element array q)) d t
  to_element_by array q a e d t h = to_element array q d t (subst (λ x. IsLeft r (access_tree x s.units s.own (λ x at. ask_value (asked (sort_seen q) (ask.Read x at)) s.units s.own)) 1 s d t) e h)

  pub to_set_field_by : (at : ℕ) (object : Value) (a : Access) → a ≡ field_access Writes s.place.label object at → (d : Control) (t : State) → IsLeft r (valued (access_tree a s.units s.own (λ x at. ask_unit (ask.Write x at v) s.units s.own))) 1 s d t → Goes r (control.Give v) (pushed s (frame.SetField at object)) d t
  to_set_field_by at object a e d t h = to_set_field at object d t (subst (λ x. IsLeft r (valued (access_tree x s.units s.own (λ x at. ask_unit (ask.Write x at v) s.units s.own))) 1 s d t) e h)

  pub to_set_element_by : (array index : Value) (a : Access) → a ≡ element_access Writes s.place.label array index → (d : Control) (t : State) → IsLeft r (valued (access_tree a s.units s.own (λ x at. ask_unit (ask.Write x at v) s.units s.own))) 1 s d t → Goes r (control.Give v) (pushed s (frame.SetElement array index)) d t
  to_set_element_by array index a e d t h = to_set_element array index d t (subst (λ x. IsLeft r (valued (access_tree x s.units s.own (λ x at. ask_unit (ask.Write x at v) s.units s.own))) 1 s d t) e h)

  pub to_length : (k : Kind) (d : Control) → d ≡ array_control k v → Goes r (control.Give v) (pushed s (frame.Length k)) d s
  unfolding left_at on_end
  to_length k d e = rw e (goes_by r s v (frame.Length k) (on_number v (λ z. makes_array k z s.units s.own)) 1 (array_control k v) s refl (omega arith) (array_left r s k v))

  pub to_throw : (d : Control) → d ≡ thrown_control v → Goes r (control.Give v) (pushed s frame.Throw) d s
  unfolding left_at on_end
  to_throw d e = rw e (goes_by r s v frame.Throw (valued (throws v s.units s.own)) 1 (thrown_control v) s refl (omega arith) (thrown_left r s v))

  pub to_spawn : (depth f : ℕ) (args : Bor (List Expr)) → Goes r (control.Give v) (pushed s (frame.Spawn depth f args)) (control.Gather depth args [] (using.Spawn f v)) s
  unfolding left_at on_end
  to_spawn depth f args = record { left = refl; less = inr (refl, omega arith) }

  pub to_args : (depth : ℕ) (rest : Bor (List Expr)) (vs : List Value) (u : Using) (ws : List Value) → ws ≡ vs ++ v ∷ [] → Goes r (control.Give v) (pushed s (frame.Args depth rest vs u)) (control.Gather depth rest ws u) s
  unfolding left_at on_end
  to_args depth rest vs u ws e = rw e (record { left = refl; less = inr (refl, omega arith) })

  pub to_local : (x : ℕ) (t : State) → t ≡ local_set s x v → Goes r (control.Give v) (pushed s (frame.Assign x)) (control.Give Nothing) t
  unfolding left_at on_end
  to_local x t e = rw e (record { left = refl; less = inr (refl, omega arith) })

  pub to_nothing : Goes r (control.Give v) (pushed s frame.Drop) (control.Give Nothing) s
  unfolding left_at on_end
  to_nothing = record { left = refl; less = inr (refl, omega arith) }

  pub to_return : Goes r (control.Give v) (pushed s frame.Return) (control.Leave v) s
  unfolding left_at on_end
  to_return = record { left = refl; less = inr (refl, omega arith) }

  pub to_leaving : (x : Value) → Goes r (control.Give v) (pushed s (frame.Leaving x)) (control.Leave x) s
  unfolding left_at on_end
  to_leaving x = record { left = refl; less = inr (refl, omega arith) }

  pub to_bar : Goes r (control.Give v) (pushed s frame.Bar) (control.Raise Denied) s
  unfolding left_at on_end
  to_bar = record { left = refl; less = inr (refl, omega arith) }

  -- ---- an expression comes next

  pub plain_op : (op : BinaryOp) → (op ≡ binary.And → ⊥) → (op ≡ binary.Or → ⊥) → stops_at op ≡ None
  plain_op binary.And h g = absurd (h refl)
  plain_op binary.Or h g = absurd (g refl)
  plain_op op h g = refl

  pub to_operand : {d : Control} {t : State} (depth : ℕ) (e : Bor Expr) (op : BinaryOp) → stops_at op ≡ None → IsWaiting (control.Eval depth e) (frame.Operate op v) s d t → Goes r (control.Give v) (pushed s (frame.Expr depth e (expr.Left op))) d t
  unfolding left_at on_end
  to_operand depth e op h w =
      waits_goes r s v (frame.Expr depth e (expr.Left op)) depth e (frame.Operate op v) w (goes_right r depth s.frames s.place s.units s.own op v (expr_tree e.now) h) (omega arith)

  pub of_element : {d : Control} {t : State} (depth : ℕ) (e : Bor Expr) (q : Written) → IsWaiting (control.Eval depth e) (frame.Element v q) s d t → Goes r (control.Give v) (pushed s (frame.Expr depth e (expr.OfElement q))) d t
  unfolding left_at on_end
  of_element depth e q w =
      waits_goes r s v (frame.Expr depth e (expr.OfElement q)) depth e (frame.Element v q) w (goes_element r depth s.frames s.place s.units s.own q v (expr_tree e.now)) (omega arith)

  pub of_field : {d : Control} {t : State} (depth : ℕ) (e : Bor Expr) (at : ℕ) → IsWaiting (control.Eval depth e) (frame.SetField at v) s d t → Goes r (control.Give v) (pushed s (frame.Expr depth e (expr.OfField at))) d t
  unfolding left_at on_end
  of_field depth e at w =
      waits_goes r s v (frame.Expr depth e (expr.OfField at)) depth e (frame.SetField at v) w (goes_field r depth s.frames s.place s.units s.own at v (expr_tree e.now)) (omega arith)

  pub of_index : {d : Control} {t : State} (depth : ℕ) (e : Bor Expr) (array : Value) → IsWaiting (control.Eval depth e) (frame.SetElement array v) s d t → Goes r (control.Give v) (pushed s (frame.Expr depth e (expr.OfIndex array))) d t
  unfolding left_at on_end
  of_index depth e array w =
      waits_goes r s v (frame.Expr depth e (expr.OfIndex array)) depth e (frame.SetElement array v) w (goes_set r depth s.frames s.place s.units s.own array v (expr_tree e.now)) (omega arith)

  pub to_index : {d : Control} {t : State} (depth : ℕ) (e g : Bor Expr) → IsWaiting (control.Eval depth e) (frame.Expr depth g (expr.OfIndex v)) s d t → Goes r (control.Give v) (pushed s (frame.Index depth e g)) d t
  unfolding left_at on_end
  to_index depth e g w =
      waits_goes r s v (frame.Index depth e g) depth e (frame.Expr depth g (expr.OfIndex v)) w (goes_index r depth s.frames s.place s.units s.own v (expr_tree e.now) g) (omega arith)

-- ---- operators that stop early

module _ (r : ResolvedTree) (s : State) (depth : ℕ) (e : Bor Expr) where
  pub and_goes : (v : Value) → Goes r (control.Give v) (pushed s (frame.Expr depth e (expr.Left binary.And))) (and_control depth e v) s
  unfolding left_at on_end
  and_goes (Truth true) = record { left = refl; less = inr (refl, omega arith) }
  and_goes v = record { left = refl; less = inr (refl, omega arith) }

  pub or_goes : (v : Value) → Goes r (control.Give v) (pushed s (frame.Expr depth e (expr.Left binary.Or))) (or_control depth e v) s
  unfolding left_at on_end
  or_goes (Truth true) = record { left = refl; less = inr (refl, omega arith) }
  or_goes v = record { left = refl; less = inr (refl, omega arith) }

  pub and_by : (v : Value) (op : BinaryOp) (d : Control) → op ≡ binary.And → d ≡ and_control depth e v → Goes r (control.Give v) (pushed s (frame.Expr depth e (expr.Left op))) d s
  and_by v op d h g = subst (λ x. Goes r (control.Give v) (pushed s (frame.Expr depth e (expr.Left x))) d s) (sym h) (subst (λ x. Goes r (control.Give v) (pushed s (frame.Expr depth e (expr.Left binary.And))) x s) (sym g) (and_goes v))

  pub or_by : (v : Value) (op : BinaryOp) (d : Control) → op ≡ binary.Or → d ≡ or_control depth e v → Goes r (control.Give v) (pushed s (frame.Expr depth e (expr.Left op))) d s
  or_by v op d h g = subst (λ x. Goes r (control.Give v) (pushed s (frame.Expr depth e (expr.Left x))) d s) (sym h) (subst (λ x. Goes r (control.Give v) (pushed s (frame.Expr depth e (expr.Left binary.Or))) x s) (sym g) (or_goes v))
