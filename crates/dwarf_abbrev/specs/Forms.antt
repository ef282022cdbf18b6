-- The forms of attribute values (DWARF 5, section 7.5.6), their encodings, and their meanings (section 7.5.5).
use Rattle.std.specs.Prelude.{ℕ, ◌==◌, Option, Some, None, if◌then◌else◌}
use Rattle.dwarf_abbrev.specs.declared.constants.TheConstants.{DW_FORM_ADDR, DW_FORM_BLOCK2, DW_FORM_BLOCK4, DW_FORM_DATA2, DW_FORM_DATA4, DW_FORM_DATA8, DW_FORM_STRING, DW_FORM_BLOCK, DW_FORM_BLOCK1, DW_FORM_DATA1, DW_FORM_FLAG, DW_FORM_SDATA, DW_FORM_STRP, DW_FORM_UDATA, DW_FORM_REF_ADDR, DW_FORM_REF1, DW_FORM_REF2, DW_FORM_REF4, DW_FORM_REF8, DW_FORM_REF_UDATA, DW_FORM_INDIRECT, DW_FORM_SEC_OFFSET, DW_FORM_EXPRLOC, DW_FORM_FLAG_PRESENT, DW_FORM_STRX, DW_FORM_ADDRX, DW_FORM_REF_SUP4, DW_FORM_STRP_SUP, DW_FORM_DATA16, DW_FORM_LINE_STRP, DW_FORM_REF_SIG8, DW_FORM_IMPLICIT_CONST, DW_FORM_LOCLISTX, DW_FORM_RNGLISTX, DW_FORM_REF_SUP8, DW_FORM_STRX1, DW_FORM_STRX2, DW_FORM_STRX3, DW_FORM_STRX4, DW_FORM_ADDRX1, DW_FORM_ADDRX2, DW_FORM_ADDRX3, DW_FORM_ADDRX4, DW_FORM_GNU_ADDR_INDEX, DW_FORM_GNU_STR_INDEX, DW_FORM_GNU_REF_ALT, DW_FORM_GNU_STRP_ALT}
use Rattle.dwarf_abbrev.specs.declared.shape.UnitShape.{UnitShape}
use Rattle.dwarf_abbrev.specs.declared.form.Form.{Form}
use Rattle.dwarf_abbrev.specs.declared.form.Form.TheVariants.{Addr, Block2, Block4, Data2, Data4, Data8, String, Block, Block1, Data1, Flag, Sdata, Strp, Udata, RefAddr, Ref1, Ref2, Ref4, Ref8, RefUdata, Indirect, SecOffset, Exprloc, FlagPresent, Strx, Addrx, RefSup4, StrpSup, Data16, LineStrp, RefSig8, ImplicitConst, Loclistx, Rnglistx, RefSup8, Strx1, Strx2, Strx3, Strx4, Addrx1, Addrx2, Addrx3, Addrx4, GnuAddrIndex, GnuStrIndex, GnuRefAlt, GnuStrpAlt}
use Rattle.dwarf_abbrev.specs.declared.form.Digits.TheVariants.{One, Two, Three, Four, Eight, Uleb}
use Rattle.dwarf_abbrev.specs.declared.form.Sense.TheVariants.{Address, AddrIndex, Constant, StrOffset, LineStrOffset, StrIndex, SectionOffset, ListIndex, Other}
use Rattle.dwarf_abbrev.specs.Reads.{address_digits, offset_digits}
use Rattle.dwarf_abbrev.specs.declared.form.Layout.{Layout}
use Rattle.dwarf_abbrev.specs.declared.form.Layout.TheVariants.{Number, Signed, Text, Counted, Bytes, Implicit}

-- The form with this number (DWARF 5, section 7.5.6, table 7.6).
unfoldable pub form_of : ℕ → Option Form
form_of n =
    if n == DW_FORM_ADDR then Some Addr else
    if n == DW_FORM_BLOCK2 then Some Block2 else
    if n == DW_FORM_BLOCK4 then Some Block4 else
    if n == DW_FORM_DATA2 then Some Data2 else
    if n == DW_FORM_DATA4 then Some Data4 else
    if n == DW_FORM_DATA8 then Some Data8 else
    if n == DW_FORM_STRING then Some String else
    if n == DW_FORM_BLOCK then Some Block else
    if n == DW_FORM_BLOCK1 then Some Block1 else
    if n == DW_FORM_DATA1 then Some Data1 else
    if n == DW_FORM_FLAG then Some Flag else
    if n == DW_FORM_SDATA then Some Sdata else
    if n == DW_FORM_STRP then Some Strp else
    if n == DW_FORM_UDATA then Some Udata else
    if n == DW_FORM_REF_ADDR then Some RefAddr else
    if n == DW_FORM_REF1 then Some Ref1 else
    if n == DW_FORM_REF2 then Some Ref2 else
    if n == DW_FORM_REF4 then Some Ref4 else
    if n == DW_FORM_REF8 then Some Ref8 else
    if n == DW_FORM_REF_UDATA then Some RefUdata else
    if n == DW_FORM_INDIRECT then Some Indirect else
    if n == DW_FORM_SEC_OFFSET then Some SecOffset else
    if n == DW_FORM_EXPRLOC then Some Exprloc else
    if n == DW_FORM_FLAG_PRESENT then Some FlagPresent else
    if n == DW_FORM_STRX then Some Strx else
    if n == DW_FORM_ADDRX then Some Addrx else
    if n == DW_FORM_REF_SUP4 then Some RefSup4 else
    if n == DW_FORM_STRP_SUP then Some StrpSup else
    if n == DW_FORM_DATA16 then Some Data16 else
    if n == DW_FORM_LINE_STRP then Some LineStrp else
    if n == DW_FORM_REF_SIG8 then Some RefSig8 else
    if n == DW_FORM_IMPLICIT_CONST then Some ImplicitConst else
    if n == DW_FORM_LOCLISTX then Some Loclistx else
    if n == DW_FORM_RNGLISTX then Some Rnglistx else
    if n == DW_FORM_REF_SUP8 then Some RefSup8 else
    if n == DW_FORM_STRX1 then Some Strx1 else
    if n == DW_FORM_STRX2 then Some Strx2 else
    if n == DW_FORM_STRX3 then Some Strx3 else
    if n == DW_FORM_STRX4 then Some Strx4 else
    if n == DW_FORM_ADDRX1 then Some Addrx1 else
    if n == DW_FORM_ADDRX2 then Some Addrx2 else
    if n == DW_FORM_ADDRX3 then Some Addrx3 else
    if n == DW_FORM_ADDRX4 then Some Addrx4 else
    if n == DW_FORM_GNU_ADDR_INDEX then Some GnuAddrIndex else
    if n == DW_FORM_GNU_STR_INDEX then Some GnuStrIndex else
    if n == DW_FORM_GNU_REF_ALT then Some GnuRefAlt else
    if n == DW_FORM_GNU_STRP_ALT then Some GnuStrpAlt else
    None

-- The encoding of a form's values and what they mean: the table of forms (DWARF 5, sections 7.5.5 and 7.5.6;
-- DWARF 2, section 7.5.4 for `DW_FORM_ref_addr`).
unfoldable pub layout_of : UnitShape → Form → Layout
layout_of s Addr = Number (address_digits s.address) Address
layout_of s Data1 = Number One Constant
layout_of s Data2 = Number Two Constant
layout_of s Data4 = Number Four Constant
layout_of s Data8 = Number Eight Constant
layout_of s Udata = Number Uleb Constant
layout_of s Sdata = Signed
layout_of s String = Text
layout_of s Strp = Number (offset_digits s.wide) StrOffset
layout_of s LineStrp = Number (offset_digits s.wide) LineStrOffset
layout_of s SecOffset = Number (offset_digits s.wide) SectionOffset
layout_of s Strx = Number Uleb StrIndex
layout_of s Strx1 = Number One StrIndex
layout_of s Strx2 = Number Two StrIndex
layout_of s Strx3 = Number Three StrIndex
layout_of s Strx4 = Number Four StrIndex
layout_of s Addrx = Number Uleb AddrIndex
layout_of s Addrx1 = Number One AddrIndex
layout_of s Addrx2 = Number Two AddrIndex
layout_of s Addrx3 = Number Three AddrIndex
layout_of s Addrx4 = Number Four AddrIndex
layout_of s Rnglistx = Number Uleb ListIndex
layout_of s Block1 = Counted One
layout_of s Block2 = Counted Two
layout_of s Block4 = Counted Four
layout_of s Block = Counted Uleb
layout_of s Exprloc = Counted Uleb
layout_of s Flag = Number One Other
layout_of s Ref1 = Number One Other
layout_of s Ref2 = Number Two Other
layout_of s Ref4 = Number Four Other
layout_of s RefSup4 = Number Four Other
layout_of s Ref8 = Number Eight Other
layout_of s RefSig8 = Number Eight Other
layout_of s RefSup8 = Number Eight Other
layout_of s Data16 = Bytes 16
layout_of s FlagPresent = Bytes 0
layout_of s RefUdata = Number Uleb Other
layout_of s Loclistx = Number Uleb Other
layout_of s GnuAddrIndex = Number Uleb Other
layout_of s GnuStrIndex = Number Uleb Other
layout_of s StrpSup = Number (offset_digits s.wide) Other
layout_of s GnuRefAlt = Number (offset_digits s.wide) Other
layout_of s GnuStrpAlt = Number (offset_digits s.wide) Other
layout_of s RefAddr = Number (if s.version == 2 then address_digits s.address else offset_digits s.wide) Other
layout_of s ImplicitConst = Implicit
layout_of s Indirect = Layout.Indirect
