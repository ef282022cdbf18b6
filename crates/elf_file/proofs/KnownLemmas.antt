-- What the checks of a file imply for one section or segment.
use Rattle.std.proofs.Common.{◌≡◌, ℕ, ◌-◌, ◌<◌, List, Ok, arith}
use Rattle.size_core.proofs.Each.{each_at}
use Rattle.elf_file.specs.Tables.{section_count, segment_count}
use Rattle.elf_file.specs.ElfChecks.{section_fits, section_has_name, segment_fits}
use Rattle.elf_file.specs.Known.{sections_fit, sections_have_names, segments_fit}

pub fits_at : (file : List ℕ) (i : ℕ) → sections_fit file ≡ Ok tt → 0 < i → i < section_count file → section_fits file i ≡ Ok tt
fits_at file i all low high = each_at (section_fits file) (section_count file - 1) 1 i all (omega arith) (omega arith)

pub named_at : (file : List ℕ) (i : ℕ) → sections_have_names file ≡ Ok tt → 0 < i → i < section_count file → section_has_name file i ≡ Ok tt
named_at file i all low high = each_at (section_has_name file) (section_count file - 1) 1 i all (omega arith) (omega arith)

pub loaded_at : (file : List ℕ) (i : ℕ) → segments_fit file ≡ Ok tt → i < segment_count file → segment_fits file i ≡ Ok tt
loaded_at file i all high = each_at (segment_fits file) (segment_count file) 0 i all (omega arith) (omega arith)
