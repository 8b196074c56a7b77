-- The one table of refusals: what is wrong, the fields of refusal 2 and the reasons of refusal 3, in the order of their numbers from 1 on.
use Prim.Native.String.{String}
use Rattle.std.specs.Prelude.{List, [], ◌∷◌}

-- by number: what is wrong with a line of a sheet or a record of a text, or with what is printed without a line; what is wrong outside lines
-- the field of 2 and the reason of 3 follow; an empty text is no row; in every text # stands for the value and & for the detail
abbrev pub number_rows : List (String × String)
number_rows =
    ("no such instruction: an `Extended` base above 8, a full word there that is reserved or has another spelling, or a word outside 40960 to 45055 for LINEA, 61440 to 65535 for LINEF", "")
    ∷ ("the value # does not fit field &, ", "")
    ∷ ("no encoding, by this rule (reason &): ", "")
    ∷ ("fewer bytes are lent than the size", "")
    ∷ ("the words end before an instruction does", "the image is empty, or ends before the instruction at word # does (the first is 0)")
    ∷ ("the words begin with no instruction, and no instruction begins with them", "the words of the image from word # on (the first is 0) begin with no instruction, and no instruction begins with them")
    ∷ ("not in the form: a field that does not belong there, or a field too many or too few", "the START line is not in the form: `START`, a tab and an address from 0 to 4294967295")
    ∷ ("`@` names no instruction line", "")
    ∷ ("", "the start is odd, or the end is above 2^32")
    ∷ ("the input is longer than 1 MiB", "the sheet is empty, is over 65,536 bytes, does not end in a line feed, or does not have 1 to 4,096 instruction lines; S-records are over 1 MiB; or an image has over 4,096 lines")
    ∷ ("", "more lines than places are lent (4,096), more words than there is room for (`sheet` and `srecord` have 16,384, `image` and `unsheet` 45,056), or a text longer than the bytes lent")
    ∷ ("not S1, S2, S3, or S7, S8, S9 without data; not capitals and a line feed; a wrong length; data bytes odd in number; or the record is missing, or stands after the closing one", "")
    ∷ ("the checksum of this S-record is wrong", "")
    ∷ ("this S-record does not begin where the last ended, passes 2^32, or closes with another start", "")
    ∷ ("not of the MC68000: the instruction, its size or an operand is of later processors", "")
    ∷ ("", "the branch at word # of the image (the first is 0) lands on no line's first word")
    ∷ ("", "the sheet of the image is longer than 65,536 bytes, or than the bytes lent")
    ∷ []

-- by the detail of 2: the field, and what it holds
abbrev pub field_rows : List (String × String)
field_rows =
    ("the displacement byte of a short branch", "-128 to 127, not 0 or -1")
    ∷ ("the displacement word of a word branch or a DBcc", "-32768 to 32767")
    ∷ ("the displacement word of d16(PC)", "-32768 to 32767")
    ∷ ("the displacement byte of d8(PC,Xn)", "-128 to 127")
    ∷ ("the displacement word of d16(An), and of MOVEP", "-32768 to 32767")
    ∷ ("the displacement byte of d8(An,Xn)", "-128 to 127")
    ∷ ("an absolute short address, read as signed", "-32768 to 32767, written with 4294967296 added where below 0")
    ∷ ("an absolute address", "0 to 4294967295 (a value from 2^63 on is shown below 0)")
    ∷ ("an immediate", "-128 to 255 as a byte and -32768 to 65535 as a word, written with 4294967296 added where below 0, and 0 to 4294967295 as a long")
    ∷ ("the count of ADDQ, SUBQ and a shift by an immediate", "1 to 8")
    ∷ ("the vector of TRAP", "0 to 15")
    ∷ ("a static bit number", "0 to 255")
    ∷ ("the displacement of LINK, read as signed", "-32768 to 32767, written with 4294967296 added where below 0")
    ∷ ("a register number", "0 to 7")
    ∷ ("the displacement of RTD, read as signed", "-32768 to 32767, written with 4294967296 added where below 0")
    ∷ ("the vector of BKPT", "0 to 7")
    ∷ ("a base displacement written in a word", "-32768 to 32767")
    ∷ ("an outer displacement written in a word", "-32768 to 32767")
    ∷ ("a displacement written as none", "0")
    ∷ ("the offset and the width of a bit field, of which the larger is reported even where the smaller is at fault", "0 to 31 each, in a register 0 to 7")
    ∷ []

-- by the detail of 3
abbrev pub reason_rows : List String
reason_rows =
    "the register there is a data register"
    ∷ "the register there is an address register"
    ∷ "the operand there is a data register"
    ∷ "an index register is a word or a long"
    ∷ "`movep` reaches memory through `d16(An)` only"
    ∷ "`movep` moves a word or a long"
    ∷ "an address register is never read a byte at a time"
    ∷ "`move` reads any operand"
    ∷ "`move` writes a data alterable operand; into an address register it is `movea`"
    ∷ "`movea` moves a word or a long"
    ∷ "`movea` reads any operand"
    ∷ "`tst` reads any operand"
    ∷ "`move sr` writes a data alterable operand"
    ∷ "`move ccr` writes a data alterable operand"
    ∷ "`move` into `ccr` reads a data operand"
    ∷ "`move` into `sr` reads a data operand"
    ∷ "`nbcd` writes a data alterable operand"
    ∷ "`pea` takes a control operand"
    ∷ "`ext` widens a byte to a word or a long, or a word to a long"
    ∷ "`movem` moves words or longs"
    ∷ "`movem` writes registers to a control alterable operand or `-(An)`"
    ∷ "`movem` reads registers from a control operand or `(An)+`"
    ∷ "`tas` writes a data alterable operand"
    ∷ "`moves` takes a memory alterable operand"
    ∷ "`jsr` takes a control operand"
    ∷ "`jmp` takes a control operand"
    ∷ "`chk` reads a data operand"
    ∷ "a multiply reads a data operand"
    ∷ "a divide reads a data operand"
    ∷ "`cas` takes a memory alterable operand"
    ∷ "`cas2` compares words or longs"
    ∷ "a bit field written is in a data register or a control alterable operand"
    ∷ "a bit field read is in a data register or a control operand"
    ∷ "`lea` takes a control operand"
    ∷ "`Scc` writes a data alterable operand"
    ∷ "the conditions `t` and `f` of a branch are `bra` and `bsr`"
    ∷ "`suba` reads any operand"
    ∷ "a line A word begins with `$A`"
    ∷ "`cmp` reads any operand"
    ∷ "`cmpa` reads any operand"
    ∷ "`cmpm` compares two `(An)+` operands"
    ∷ "`eor` writes a data alterable operand"
    ∷ "`exg` of a data and an address register is written data register first"
    ∷ "`adda` reads any operand"
    ∷ "a line F word begins with `$F`"
    ∷ "`cmpi` compares with a data operand other than an immediate"
    ∷ "an immediate instruction writes a data alterable operand"
    ∷ "`pack` and `unpk` take two data registers or two `-(An)`"
    ∷ "`chk2` and `cmp2` read their bounds from a control operand"
    ∷ "`btst` reads a data operand"
    ∷ "a bit instruction writes a data alterable operand"
    ∷ "a static `btst` reads a data operand other than an immediate"
    ∷ "a bit number is a data register or an immediate"
    ∷ "the instruction takes a data alterable operand"
    ∷ "an address register is never written a byte at a time"
    ∷ "a quick form writes an alterable operand"
    ∷ "`and` and `or` read a data operand"
    ∷ "`and` and `or` write a data register or memory; an immediate is `andi` or `ori`"
    ∷ "`add` and `sub` read any operand"
    ∷ "`add` and `sub` write a register or memory, from a data register"
    ∷ "an address register takes a word or a long"
    ∷ "the extend group takes `Dy,Dx` or `-(Ay),-(Ax)`"
    ∷ "a shift count is a data register or 1 to 8"
    ∷ "a shift in memory shifts a word by one place"
    ∷ "a shift in memory writes a memory alterable operand"
    ∷ []
