-- The values of attributes (DWARF 5, sections 7.5.5 and 7.5.6).
use Rattle.std.specs.Prelude.{◌≡◌, ◌≤◌, ℕ, ℤ, List, length, Option, Some, None, Result, Ok}
use Rattle.std.specs.Option.{option_map}
use Rattle.size_core.specs.declared.fault.BadFile.{BadFile}
use Rattle.size_core.specs.declared.fault.Fault.TheVariants.{UnknownForm}
use Rattle.size_core.specs.Checks.{◌>>=◌, bad}
use Rattle.byte_cursor.specs.declared.order.Order.{Order}
use Rattle.byte_cursor.specs.Window.{Window, place_of}
use Rattle.dwarf_abbrev.specs.declared.shape.UnitShape.{UnitShape}
use Rattle.dwarf_abbrev.specs.declared.spec.Spec.{Spec}
use Rattle.dwarf_abbrev.specs.declared.form.Layout.{Layout}
use Rattle.dwarf_abbrev.specs.declared.form.Layout.TheVariants.{Number, Signed, Text, Counted, Bytes, Implicit, Indirect}
use Rattle.dwarf_abbrev.specs.declared.form.Sense.{Sense}
use Rattle.dwarf_abbrev.specs.declared.form.Sense.TheVariants.{Address, AddrIndex, Constant, StrOffset, LineStrOffset, StrIndex, SectionOffset, ListIndex, Other}
use Rattle.dwarf_abbrev.specs.declared.value.Value.{Value}
use Rattle.dwarf_abbrev.specs.declared.value.Content.{Content}
use Rattle.dwarf_abbrev.specs.Forms.{form_of, layout_of}
use Rattle.dwarf_abbrev.specs.Reads.{faults_at, uleb_from, sleb_from, text_from, skip_from, number_from}

-- The content of an attribute's value (DWARF 5, section 7.5.5).
pub data Meaning : Type 0 where
  AnAddress : ℕ → Meaning
  AnAddrIndex : ℕ → Meaning
  AConstant : ℕ → Meaning
  ASigned : ℤ → Meaning
  AText : List ℕ → Meaning
  AStrOffset : ℕ → Meaning
  ALineStrOffset : ℕ → Meaning
  AStrIndex : ℕ → Meaning
  ASecOffset : ℕ → Meaning
  AListIndex : ℕ → Meaning
  NoMeaning : Meaning

-- A value of an attribute, with its file offset.
pub record ValueRecord : Type 0 where
  pub place : ℕ
  pub content : Meaning

-- The content of a value, as contracts see it.
abbrev pub meaning : Content → Meaning
meaning (Content.Address n) = AnAddress n
meaning (Content.AddrIndex n) = AnAddrIndex n
meaning (Content.Constant n) = AConstant n
meaning (Content.Signed n) = ASigned n
meaning (Content.Text t) = AText t.now
meaning (Content.StrOffset n) = AStrOffset n
meaning (Content.LineStrOffset n) = ALineStrOffset n
meaning (Content.StrIndex n) = AStrIndex n
meaning (Content.SecOffset n) = ASecOffset n
meaning (Content.ListIndex n) = AListIndex n
meaning Content.Other = NoMeaning

-- A value with its file offset, as contracts see it.
abbrev pub shown : Value → ValueRecord
shown v = record { place = v.place; content = meaning v.content }

-- The content that a number encodes.
abbrev pub number_content : Sense → ℕ → Meaning
number_content Address n = AnAddress n
number_content AddrIndex n = AnAddrIndex n
number_content Constant n = AConstant n
number_content StrOffset n = AStrOffset n
number_content LineStrOffset n = ALineStrOffset n
number_content StrIndex n = AStrIndex n
number_content SectionOffset n = ASecOffset n
number_content ListIndex n = AListIndex n
number_content Other n = NoMeaning

-- A value in this encoding. UnknownForm for an implicit or indirect one (DWARF 5, section 7.5.5).
unfoldable pub plain_from : Order → Layout → Window → Result (Meaning × Window) BadFile
plain_from order (Number digits sense) w = do
  n ← number_from order digits w
  Ok (number_content sense n.0, n.1)
plain_from order Signed w = do
  n ← sleb_from w
  Ok (ASigned n.0, n.1)
plain_from order Text w = do
  t ← text_from w
  Ok (AText t.0, t.1)
plain_from order (Counted digits) w = do
  n ← number_from order digits w
  passed ← skip_from n.0 n.1
  Ok (NoMeaning, passed.1)
plain_from order (Bytes count) w = do
  passed ← skip_from count w
  Ok (NoMeaning, passed.1)
plain_from order Implicit w = bad UnknownForm (place_of w)
plain_from order Indirect w = bad UnknownForm (place_of w)

-- The encoding of the form with this number, if there is such a form.
abbrev pub layout_of_number : UnitShape → ℕ → Option Layout
layout_of_number s n = option_map (layout_of s) (form_of n)

-- A value in this encoding; UnknownForm if there is none.
abbrev pub known_from : Order → Option Layout → Window → Result (Meaning × Window) BadFile
known_from order None w = bad UnknownForm (place_of w)
known_from order (Some layout) w = plain_from order layout w

-- A value in this encoding: the constant of the declaration for an implicit form, a value of the form that
-- follows for an indirect one, or else the bytes here (DWARF 5, sections 7.5.3 and 7.5.5).
unfoldable pub content_by : UnitShape → ℤ → Option Layout → Window → Result (Meaning × Window) BadFile
content_by s constant None w = bad UnknownForm (place_of w)
content_by s constant (Some Implicit) w = Ok (ASigned constant, w)
content_by s constant (Some Indirect) w = do
  form ← uleb_from w
  known_from s.order (layout_of_number s form.0) form.1
content_by s constant (Some layout) w = plain_from s.order layout w

-- The value of an attribute. Each fault has its file offset: UnknownForm, Truncated if it reaches past the
-- end of the window, BadLeb if a number in it is too large (DWARF 5, section 7.5.5).
unfoldable pub value_from : UnitShape → Spec → Window → Result (ValueRecord × Window) BadFile
value_from s spec w = faults_at (place_of w) do
  content ← content_by s spec.constant (layout_of_number s spec.form) w
  Ok (record { place = place_of w; content = content.0 }, content.1)

-- A value of this attribute takes no bytes: reading one has no fault, and the window after it is the same.
abbrev pub TakesNoBytes : Spec → Type 0
TakesNoBytes spec = (shape : UnitShape) (w : Window) → w.at ≤ length w.bytes → (v : ValueRecord) × (value_from shape spec w ≡ Ok (v, w))
