-- Messages that wait in a line.
--
-- Of the line whose front are the bytes `a`, before some capabilities, a receiver of bytes takes `a`, and one of
-- capabilities takes nothing, although capabilities wait behind.
use Rattle.std.specs.Prelude.{◌≡◌, ℕ, Bool, true, false, cond, List, [], ◌∷◌, ◌++◌, length, nat_lt, Option, Some, None, codes, refl}
use Rattle.capabilities.specs.declared.Caps.{Caps as Capabilities}
use Rattle.labelled_pipes.specs.declared.message.Message.{Message}
use Rattle.labelled_pipes.specs.declared.message.Message.TheVariants.{Bytes, Caps}
use Rattle.labelled_pipes.specs.declared.message.MessageKind.{MessageKind}
use Rattle.labelled_pipes.specs.declared.message.MessageKind.TheVariants.{Bytes as bytes_kind, Caps as caps_kind}

abbrev pub kind_of : Message → MessageKind
kind_of (Bytes text) = bytes_kind
kind_of (Caps caps) = caps_kind

abbrev pub is_of : MessageKind → Message → Bool
is_of bytes_kind (Bytes text) = true
is_of bytes_kind (Caps caps) = false
is_of caps_kind (Bytes text) = false
is_of caps_kind (Caps caps) = true

-- in a line at most this many messages wait
abbrev pub most_messages : ℕ
most_messages = 1024

-- a message joins the end of a line in which fewer wait; else the line stays as it is
abbrev pub joined : Message → List Message → List Message
joined m line = cond (nat_lt (length line) most_messages) (line ++ m ∷ []) line

-- the front of a line, where it is of a kind: none of an empty line, and none of one whose front is of the other
abbrev pub front_of : MessageKind → List Message → Option Message
front_of kind [] = None
front_of kind (m ∷ line) = cond (is_of kind m) (Some m) None

-- a line without its front, where that is of a kind
abbrev pub rest_of : MessageKind → List Message → List Message
rest_of kind [] = []
rest_of kind (m ∷ line) = cond (is_of kind m) line (m ∷ line)

-- ---- worked examples
first_in_the_line : (m : Message) → joined m [] ≡ m ∷ []
first_in_the_line m = refl

last_in_the_line : (m n : Message) → joined n (m ∷ []) ≡ m ∷ n ∷ []
last_in_the_line m n = refl

bytes_are_taken : (c : Capabilities) → front_of bytes_kind (Bytes (codes "a") ∷ Caps c ∷ []) ≡ Some (Bytes (codes "a"))
bytes_are_taken c = refl

capabilities_wait_behind : (c : Capabilities) → front_of caps_kind (Bytes (codes "a") ∷ Caps c ∷ []) ≡ None
capabilities_wait_behind c = refl

line_without_its_front : (c : Capabilities) → rest_of bytes_kind (Bytes (codes "a") ∷ Caps c ∷ []) ≡ Caps c ∷ []
line_without_its_front c = refl

line_stays : (c : Capabilities) → rest_of caps_kind (Bytes (codes "a") ∷ Caps c ∷ []) ≡ Bytes (codes "a") ∷ Caps c ∷ []
line_stays c = refl
