-- What a call leaves of each object by itself, and how many blocks a mounted drive has.
use Rattle.std.proofs.Common.{◌≡◌, ◌≤◌, ◌<◌, ℕ, Bool, true, false, not, ◌&&◌, List, Option, Some, None, arith, refl, sym, ap, subst, true≢false}
use Rattle.std.proofs.Math.Seq.{take-length}
use Rattle.edi_told.specs.Told.{WhereTold}
use Rattle.edi_image.specs.Image.{mount_fault_of}
use Rattle.edi_system.specs.Parts.{IsValid}
use Rattle.edi_system.specs.Growing.{Grows, Shrinks}
use Rattle.edi_words.specs.Words.{Command}
use Rattle.edi_statuses.specs.declared.status.Status.{Status}
use Rattle.edi_statuses.specs.EachObject.{DevicesStay, Handed, KeepsImage, LeavesEach, MayBeImage, UnusedStay, is_before_drive, stops_first}
use Rattle.edi_statuses.specs.EachObject.{uses_devices, uses_drive, uses_files, uses_input, uses_kernel}
use Rattle.edi_statuses.specs.Outside.{Outside}

-- ---- the number of blocks

-- a drive that was mounted
pub mounted_image : {D : Type 0} (count : D → ℕ) (lent attached mounted : D) → lent ≡ attached → (0 < count attached → count attached < 64 → ⊥)
    → count mounted ≡ count attached → count mounted ≤ 4096 → MayBeImage (count lent)
mounted_image count lent attached mounted same none counted most = record {
  least = λ some few. none (subst (λ d. 0 < count d) same some) (subst (λ d. count d < 64) same few);
  most = omega (arith, ap count same, counted, most);
}

-- ---- what each holds

keeps_itself : (blocks : Option (List (List ℕ))) → WhereTold blocks blocks KeepsImage
keeps_itself None = tt
keeps_itself (Some blocks) = λ valid. valid

shrinks_itself : (left : Option (List ℕ)) → WhereTold left left Shrinks
shrinks_itself None = tt
shrinks_itself (Some left) = (0, refl)

grows_itself : (taken : Option (List ℕ)) → WhereTold taken taken Grows
grows_itself None = tt
grows_itself (Some taken) = take-length taken

pub same_valid : (old new : List (List ℕ)) → new ≡ old → KeepsImage old new
same_valid old new same = λ valid. subst (λ b. mount_fault_of b ≡ None) (sym same) valid

-- a drive that is left alone
pub keeps_same : (old new : Option (List (List ℕ))) → new ≡ old → WhereTold old new KeepsImage
keeps_same old new same = subst (λ x. WhereTold old x KeepsImage) (sym same) (keeps_itself old)

-- one that is a valid image in the end
pub keeps_valid : (old new : Option (List (List ℕ))) (P : List (List ℕ) → List (List ℕ) → Type 0) → WhereTold old new P → IsValid new
    → WhereTold old new KeepsImage
keeps_valid old None P told valid = tt
keeps_valid None (Some now) P told valid = absurd told
keeps_valid (Some was) (Some now) P told valid = λ before. valid

-- these objects are left alone
pub each_same : (c : Option Command) (before after : Outside) → after.blocks ≡ before.blocks → after.input ≡ before.input
    → after.printed ≡ before.printed → LeavesEach c before after
each_same c before after blocks input printed = record {
  drive = λ stays. keeps_same before.blocks after.blocks blocks;
  input = subst (λ x. WhereTold before.input x Shrinks) (sym input) (shrinks_itself before.input);
  printer = subst (λ x. WhereTold before.printed x Grows) (sym printed) (grows_itself before.printed);
}

-- only the drive is used
pub each_but_drive : (c : Option Command) (before after : Outside) → WhereTold before.blocks after.blocks KeepsImage → after.input ≡ before.input
    → after.printed ≡ before.printed → LeavesEach c before after
each_but_drive c before after keeps input printed =
    let rest = each_same c before (record after { blocks = before.blocks }) refl input printed in
    record { drive = λ stays. keeps; input = rest.input; printer = rest.printer }

-- ---- which are not touched

asked : (uses stops : Bool) → uses ≡ true → (uses && not stops) ≡ false → stops ≡ true
asked true true used none = refl
asked true false used none = absurd (true≢false none)
asked false stops used none = absurd (true≢false (sym used))

module _ {F D S T P K : Type 0} (before after : Handed F D S T P K) where
  -- a command that sees all devices has not come to them
  pub untouched : (c : Command) (s : Status) → uses_drive c ≡ true → uses_input c ≡ true → uses_devices c ≡ true → uses_kernel c ≡ true
      → (stops_first c s ≡ true → is_before_drive s ≡ true) → (uses_files c ≡ false → after.files ≡ before.files)
      → (is_before_drive s ≡ true → DevicesStay before after) → UnusedStay (Some c) s before after
  untouched c s drive input devices kernel first files stay = record {
    files = files;
    drive = λ none. (stay (first (asked (uses_drive c) (stops_first c s) drive none))).drive;
    input = λ none. (stay (first (asked (uses_input c) (stops_first c s) input none))).input;
    printer = λ none. (stay (first (asked (uses_devices c) (stops_first c s) devices none))).printer;
    kernel = λ none. (stay (first (asked (uses_kernel c) (stops_first c s) kernel none))).kernel;
  }

  -- so of one that sees all devices, but not the kernel
  pub untouched_but_kernel : (c : Command) (s : Status) → uses_drive c ≡ true → uses_input c ≡ true → uses_devices c ≡ true
      → (stops_first c s ≡ true → is_before_drive s ≡ true) → (uses_files c ≡ false → after.files ≡ before.files)
      → (is_before_drive s ≡ true → DevicesStay before after) → after.kernel ≡ before.kernel → UnusedStay (Some c) s before after
  untouched_but_kernel c s drive input devices first files stay kernel = record {
    files = files;
    drive = λ none. (stay (first (asked (uses_drive c) (stops_first c s) drive none))).drive;
    input = λ none. (stay (first (asked (uses_input c) (stops_first c s) input none))).input;
    printer = λ none. (stay (first (asked (uses_devices c) (stops_first c s) devices none))).printer;
    kernel = λ none. kernel;
  }

  -- so of one that sees the terminal and the printer alone
  pub untouched_alone : (c : Command) (s : Status) → uses_devices c ≡ true → uses_kernel c ≡ true → (stops_first c s ≡ true → is_before_drive s ≡ true)
      → (uses_files c ≡ false → after.files ≡ before.files) → after.drive ≡ before.drive → after.input ≡ before.input
      → (is_before_drive s ≡ true → DevicesStay before after) → UnusedStay (Some c) s before after
  untouched_alone c s devices kernel first files drive input stay = record {
    files = files;
    drive = λ none. drive;
    input = λ none. input;
    printer = λ none. (stay (first (asked (uses_devices c) (stops_first c s) devices none))).printer;
    kernel = λ none. (stay (first (asked (uses_kernel c) (stops_first c s) kernel none))).kernel;
  }

  -- so of one that sees the input and the kernel alone
  pub untouched_but_input : (c : Command) (s : Status) → uses_input c ≡ true → uses_kernel c ≡ true → (stops_first c s ≡ true → is_before_drive s ≡ true)
      → (uses_files c ≡ false → after.files ≡ before.files) → after.drive ≡ before.drive → after.printer ≡ before.printer
      → (is_before_drive s ≡ true → (after.input ≡ before.input) × (after.kernel ≡ before.kernel)) → UnusedStay (Some c) s before after
  untouched_but_input c s input kernel first files drive printer stay = record {
    files = files;
    drive = λ none. drive;
    input = λ none. (stay (first (asked (uses_input c) (stops_first c s) input none))).0;
    printer = λ none. printer;
    kernel = λ none. (stay (first (asked (uses_kernel c) (stops_first c s) kernel none))).1;
  }

  -- so of one that sees none of them, but the drive
  pub untouched_drive : (c : Command) (s : Status) → uses_drive c ≡ true → (uses_files c ≡ false → after.files ≡ before.files)
      → (stops_first c s ≡ true → after.drive ≡ before.drive) → after.input ≡ before.input → after.printer ≡ before.printer
      → after.kernel ≡ before.kernel → UnusedStay (Some c) s before after
  untouched_drive c s drive files stay input printer kernel = record {
    files = files;
    drive = λ none. stay (asked (uses_drive c) (stops_first c s) drive none);
    input = λ none. input;
    printer = λ none. printer;
    kernel = λ none. kernel;
  }

-- nothing is touched
pub none_touched : {F D S T P K : Type 0} (c : Option Command) (s : Status) (objects : Handed F D S T P K) → UnusedStay c s objects objects
none_touched c s objects = record { files = λ e. refl; drive = λ e. refl; input = λ e. refl; printer = λ e. refl; kernel = λ e. refl }
