use Rattle.std.proofs.Common.{◌≡◌, ℕ, List, [], ◌∷◌, ◌++◌, append_assoc, ap, ◌∙◌, lit<, string_bytes, decimal}
use Rattle.lam_value_homes.specs.LabelText.{label_text}
use Rattle.lam_value_homes.proofs.Maps.{on_ok_so}
use Rattle.lam_value.proofs.text.push_name.Goals as goal

parts : (old word maker own n : List ℕ) → (((((((old ++ word) ++ 60 ∷ []) ++ maker) ++ 124 ∷ []) ++ own) ++ 124 ∷ []) ++ n) ++ 62 ∷ [] ≡ old ++ (word ++ 60 ∷ (maker ++ 124 ∷ (own ++ 124 ∷ (n ++ 62 ∷ []))))
parts old word maker own n = simp append_assoc

-- eight texts, each with one more part
pushed : (old word maker own n a b c d e f g h : List ℕ) → a ≡ old ++ word → b ≡ a ++ 60 ∷ [] → c ≡ b ++ maker → d ≡ c ++ 124 ∷ [] → e ≡ d ++ own → f ≡ e ++ 124 ∷ [] → g ≡ f ++ n → h ≡ g ++ 62 ∷ []
    → h ≡ old ++ (word ++ 60 ∷ (maker ++ 124 ∷ (own ++ 124 ∷ (n ++ 62 ∷ []))))
pushed old word maker own n a b c d e f g h is_a is_b is_c is_d is_e is_f is_g is_h =
    let to_c : c ≡ ((old ++ word) ++ 60 ∷ []) ++ maker = is_c ∙ ap (λ t. t ++ maker) (is_b ∙ ap (λ t. t ++ 60 ∷ []) is_a) in
    let to_e : e ≡ ((((old ++ word) ++ 60 ∷ []) ++ maker) ++ 124 ∷ []) ++ own = is_e ∙ ap (λ t. t ++ own) (is_d ∙ ap (λ t. t ++ 124 ∷ []) to_c) in
    is_h ∙ ap (λ t. t ++ 62 ∷ []) (is_g ∙ ap (λ t. t ++ n) (is_f ∙ ap (λ t. t ++ 124 ∷ []) to_e)) ∙ parts old word maker own n

mark : (new old part text : List ℕ) → new ≡ old ++ part → part ≡ text → new ≡ old ++ text
mark new old part text is is_text = is ∙ ap (λ t. old ++ t) is_text

pub returns : goal.returns
returns c = on_ok_so _ _ c.push_char.result (λ last.
    pushed (string_bytes c.args.text.now) c.args.word.now (label_text c.args.names.now c.args.name.now.maker) (label_text c.args.names.now c.args.name.now.own) (decimal c.args.name.now.n)
    (string_bytes c.push_str.new.self) (string_bytes c.push.new.self) (string_bytes c.push_label.new.text) (string_bytes c.push-2.new.self) (string_bytes c.push_label-2.new.text) (string_bytes c.push-3.new.self) (string_bytes c.push_number.new.text) (string_bytes c.push_char.new.text)
    c.in_ok-push_str.ensures.bytes
    (mark _ _ _ _ c.in_ok-push.ensures.bytes (c.in_ok-push.ensures.ascii (lit< tt)))
    (mark _ _ _ _ c.in_ok-push_label.ensures (ap (label_text c.args.names.now) c.maker-maker.ensures))
    (mark _ _ _ _ c.in_ok-push-2.ensures.bytes (c.in_ok-push-2.ensures.ascii (lit< tt)))
    (mark _ _ _ _ c.in_ok-push_label-2.ensures (ap (label_text c.args.names.now) c.own-own.ensures))
    (mark _ _ _ _ c.in_ok-push-3.ensures.bytes (c.in_ok-push-3.ensures.ascii (lit< tt)))
    (mark _ _ _ _ c.in_ok-push_number.ensures (ap decimal c.n.ensures))
    last) c.push_char.ensures
