-- The sizes of the parts of a synthetic file in bytes.
use Rattle.std.proofs.Common.{◌≡◌, ℕ, ◌+◌, ◌*◌, ◌%◌, length, refl, length-append, arith}
use Rattle.std.proofs.lemmas.List.{length-replicate}
use Rattle.std.proofs.lemmas.List.FromFn.{length-map-range_with_len}
use Rattle.elf_synth.specs.declared.records.SectionHeader.{SectionHeader}
use Rattle.elf_synth.specs.declared.layout.Layout.{Layout}
use Rattle.elf_synth.specs.Records.{half, word, xword, zeros, identification, file_header, program_header, symbol_bytes, section_header}
use Rattle.elf_synth.specs.Contents.{text, function_symbol, symbols, function_name, strings, section_names}
use Rattle.elf_synth.specs.Made.{layout_of, section_headers, made}
use Rattle.elf_synth.proofs.Rows.{length-rows}

length-zeros : (count : ℕ) → length (zeros count) ≡ count
unfolding zeros
length-zeros count = length-replicate count 0

length-file_header : (entry place : ℕ) → length (file_header entry place) ≡ 64
unfolding file_header identification zeros half word xword
length-file_header entry place = refl

length-program_header : (address size : ℕ) → length (program_header address size) ≡ 56
unfolding program_header word xword
length-program_header address size = refl

length-function_symbol : (n k : ℕ) → length (function_symbol n k) ≡ 24
unfolding function_symbol symbol_bytes half word xword
length-function_symbol n k = refl

length-section_header : (s : SectionHeader) → length (section_header s) ≡ 64
unfolding section_header word xword
length-section_header s = refl

length-function_name : (k : ℕ) → length (function_name k) ≡ 9
unfolding function_name
length-function_name k = refl

pub length-text : (n : ℕ) → length (text n) ≡ 16 * n
unfolding text
length-text n = length-map-range_with_len (λ j. j % 256) 0 (16 * n)

pub length-symbols : (n : ℕ) → length (symbols n) ≡ 24 * (n + 1)
unfolding symbols
length-symbols n =
    rw (length-append (zeros 24), length-zeros 24, length-rows (function_symbol n) 24 (length-function_symbol n) 1 n) (omega arith)

pub length-strings : (n : ℕ) → length (strings n) ≡ 1 + 9 * n
unfolding strings
length-strings n = rw (length-rows function_name 9 length-function_name 1 n) (omega arith)

pub length-section_names : length section_names ≡ 33
unfolding section_names
length-section_names = refl

length-section_headers : (at : Layout) → length (section_headers at) ≡ 320
unfolding section_headers
length-section_headers at = simp (length-append, length-zeros, length-section_header) refl

-- The offsets of the parts.
pub layout_is : (n : ℕ) → layout_of n ≡ record {
  text = record { offset = 120; size = 16 * n };
  symbols = record { offset = 120 + 16 * n; size = 24 * (n + 1) };
  strings = record { offset = 120 + 16 * n + 24 * (n + 1); size = 1 + 9 * n };
  section_names = record { offset = 120 + 16 * n + 24 * (n + 1) + (1 + 9 * n); size = 33 };
  section_headers = 120 + 16 * n + 24 * (n + 1) + (1 + 9 * n) + 33;
}
unfolding layout_of
layout_is n = rw (length-text n, length-symbols n, length-strings n, length-section_names) refl

-- The size of the whole file.
pub length-made : (n : ℕ) → length (made n) ≡ 49 * n + 498
unfolding made
length-made n =
    simp (length-append, length-file_header, length-program_header, length-text, length-symbols, length-strings, length-section_names, length-section_headers) (omega arith)
