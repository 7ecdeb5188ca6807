-- What a writer has written and counted.
use Rattle.std.specs.Prelude.{◌≡◌, ℕ, ◌+◌, List, ◌++◌, length, Option, Some, None, option_map}
use Rattle.world_save_items.specs.Measures.{capped}
use Rattle.world_save_text.specs.declared.writer.JsonWriter.{JsonWriter}

-- the text, where it is kept
abbrev pub kept : JsonWriter → Option (List ℕ)
kept p = option_map (λ v. v.items) p.kept

-- more bytes of a text that is kept
abbrev pub lengthened : Option (List ℕ) → List ℕ → Option (List ℕ)
lengthened None s = None
lengthened (Some text) s = Some (text ++ s)

-- a text was written: its bytes were counted, and where the text is kept, they stand at its end
pub record Wrote (old new : JsonWriter) (s : List ℕ) : Type 0 where
  pub count : new.count ≡ capped (old.count + length s)
  pub text : kept new ≡ lengthened (kept old) s
