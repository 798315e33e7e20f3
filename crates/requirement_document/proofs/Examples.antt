-- The worked documents.
use Rattle.std.proofs.Common.{◌≡◌, ℕ, [], ◌∷◌, codes, Some, None, refl, sym, subst, arith}
use Rattle.std.proofs.lemmas.Str.{IsUtf8-from_is_utf8}
use Rattle.std.specs.Str.{is_utf8, chars}
use lib.Utf8.{encode}
use Rattle.std.specs.List.Sorted.{IsStrictlySortedBy}
use Rattle.toml.specs.Data.{Members, string, array, table, item, no_items, member, no_members}
use Rattle.toml.specs.Parse.{parse_document}
use Rattle.toml.proofs.OnLiterals.{toml_on_literals}
use Rattle.ltl_syntax.specs.Formula.{Formula, Letter, Name, Unary}
use Rattle.ltl_syntax.specs.Print.{text_of}
use Rattle.ltl_syntax.specs.declared.node.UnaryOp.TheVariants as one
use Rattle.ltl_word.specs.declared.trace.Trace.TheVariants.{Infinite}
use Rattle.ltl_word.specs.Json.{AreSetsOf}
use Rattle.ltl_lexer.specs.Tokens.{IsWord}
use Rattle.ltl_lexer.proofs.Words.{ascii_word}
use Rattle.ltl_parser.specs.Text.{ReadsText, IsAccepted, IsPrintable}
use Rattle.requirement_document.specs.declared.fault.Section.TheVariants as sections
use Rattle.requirement_document.specs.declared.fault.Cause.TheVariants as causes
use Rattle.requirement_document.specs.declared.fault.DocumentFault.{DocumentFault}
use Rattle.requirement_document.specs.Entry.{HasCause}
use Rattle.requirement_document.specs.Document.{IsDocument, IsWritten, IsPlace, HasFault, of_document, in_entry}
use Rattle.requirement_document.specs.Worked.{letter_b, small_text, small, recorded_text, recorded, twice_text, it, WorkedDocuments}

-- ---- the tables

abbrev small_table : Members
small_table = member (codes "allow")
    (array (item (table (member (codes "formula") (string (codes "b")) (member (codes "name") (string (codes "it")) no_members))) no_items))
    (member (codes "define") (array (item (table (member (codes "formula") (string (codes "b")) (member (codes "name") (string (codes "a")) no_members)))
    (item (table (member (codes "formula") (string (codes "X a")) (member (codes "name") (string (codes "b")) no_members))) no_items))) no_members)

abbrev recorded_table : Members
recorded_table = member (codes "behaviour")
    (array (item (table (member (codes "loop") (array (item (array (item (string (codes "p")) no_items)) (item (array no_items) no_items)))
    (member (codes "name") (string (codes "it")) (member (codes "stem") (array no_items) no_members)))) no_items))
    (member (codes "traces") (string (codes "finite")) no_members)

abbrev twice_table : Members
twice_table = member (codes "assume") (array (item it no_items)) (member (codes "ensure") (array (item it no_items)) no_members)

small_parsed : parse_document small_text ≡ Some small_table
unfolding toml_on_literals
small_parsed = refl

recorded_parsed : parse_document recorded_text ≡ Some recorded_table
unfolding toml_on_literals
recorded_parsed = refl

twice_parsed : parse_document twice_text ≡ Some twice_table
unfolding toml_on_literals
twice_parsed = refl

small_written : IsWritten small_text small_table
unfolding is_utf8 chars encode
small_written = record { short = omega arith; utf8 = IsUtf8-from_is_utf8 small_text refl; parsed = small_parsed }

recorded_written : IsWritten recorded_text recorded_table
unfolding is_utf8 chars encode
recorded_written = record { short = omega arith; utf8 = IsUtf8-from_is_utf8 recorded_text refl; parsed = recorded_parsed }

twice_written : IsWritten twice_text twice_table
unfolding is_utf8 chars encode
twice_written = record { short = omega arith; utf8 = IsUtf8-from_is_utf8 twice_text refl; parsed = twice_parsed }

-- ---- the documents

module _ (reads : (f : Formula) → IsPrintable f → ReadsText (text_of f) f) where
  letter_accepted : (b : ℕ) → IsWord (b ∷ []) → IsPrintable (Letter (Name (b ∷ []))) → IsAccepted (b ∷ []) (Letter (Name (b ∷ [])))
  letter_accepted b w p = record { short = omega arith; reads = reads (Letter (Name (b ∷ []))) p; few = omega arith }

  word_a : IsWord (codes "a")
  word_a = ascii_word 97 [] refl refl

  word_b : IsWord (codes "b")
  word_b = ascii_word 98 [] refl refl

  a_accepted : IsAccepted (codes "a") (Letter (Name (codes "a")))
  a_accepted = letter_accepted 97 word_a (word_a, refl)

  b_accepted : IsAccepted (codes "b") letter_b
  b_accepted = letter_accepted 98 word_b (word_b, refl)

  next_accepted : IsAccepted (codes "X a") (Unary one.Next (Letter (Name (codes "a"))))
  next_accepted = record { short = omega arith; reads = reads (Unary one.Next (Letter (Name (codes "a")))) (tt, (word_a, refl)); few = omega arith }

  small_document : IsDocument small_text small
  small_document = record {
    members = small_table;
    written = small_written;
    document = record {
      known = (small_table, refl, refl);
      kind = refl;
      definitions = (codes "a", letter_b) ∷ (codes "b", Unary one.Next letter_b) ∷ [];
      defined = (
        _,
        refl,
        (
          (codes "a", letter_b),
          record {
            known = (_, refl, refl);
            sentence = None;
            said = refl;
            name = record { text = refl; some = λ e. cc; new = refl };
            letter = a_accepted;
            text = codes "b";
            formula = refl;
            put = record { written = letter_b; accepted = b_accepted; put = refl; few = omega arith };
          },
          (
            (codes "b", Unary one.Next letter_b),
            record {
              known = (_, refl, refl);
              sentence = None;
              said = refl;
              name = record { text = refl; some = λ e. cc; new = refl };
              letter = b_accepted;
              text = codes "X a";
              formula = refl;
              put = record { written = Unary one.Next (Letter (Name (codes "a"))); accepted = next_accepted; put = refl; few = omega arith };
            },
            refl,
          ),
        ),
      );
      assume = [];
      assumed = ([], refl, tt);
      require = [];
      required = ([], refl, tt);
      allow = small.items;
      allowed = (
        _,
        refl,
        (
          record {
            known = (_, refl, refl);
            serves = refl;
            sentence = refl;
            name = record { text = refl; some = λ e. cc; new = refl };
            formula = refl;
            put = record { written = letter_b; accepted = b_accepted; put = refl; few = omega arith };
          },
          tt,
        ),
      );
      ensure = [];
      ensured = ([], refl, tt);
      items = refl;
      behaviours = ([], refl, tt);
    };
  }

sets_p : AreSetsOf ((codes "p" ∷ []) ∷ [] ∷ []) ((codes "p" ∷ []) ∷ [] ∷ [])
unfolding IsStrictlySortedBy
sets_p = (((tt, tt), λ name. (λ h. h, λ h. h)), ((tt, λ name. (λ h. h, λ h. h)), tt))

recorded_document : IsDocument recorded_text recorded
recorded_document = record {
  members = recorded_table;
  written = recorded_written;
  document = record {
    known = (recorded_table, refl, refl);
    kind = refl;
    definitions = [];
    defined = ([], refl, refl);
    assume = [];
    assumed = ([], refl, tt);
    require = [];
    required = ([], refl, tt);
    allow = [];
    allowed = ([], refl, tt);
    ensure = [];
    ensured = ([], refl, tt);
    items = refl;
    behaviours = (
      _,
      refl,
      (
        record {
          known = (_, refl, refl);
          sentence = refl;
          name = record { text = refl; some = λ e. cc; new = refl };
          written = Infinite [] ((codes "p" ∷ []) ∷ [] ∷ []);
          states = (refl, refl, refl);
          some = omega arith;
          sets = (tt, sets_p);
        },
        tt,
      ),
    );
  };
}

twice_fault : (f : DocumentFault) → f.cause ≡ causes.NameTwice → IsPlace sections.Ensure 0 it f.place → HasFault twice_text f
twice_fault f e h =
    of_document twice_table twice_written (in_entry (record {
      section = sections.Ensure;
      index = 0;
      all = it ∷ [];
      entry = it;
      written = refl;
      there = refl;
      stands = h;
      define = [];
      definitions = [];
      defines = refl;
      defined = refl;
      wrong = subst (HasCause (record { section = sections.Ensure; definitions = []; taken = codes "it" ∷ [] }) it) (sym e) (codes "it", refl, refl);
    }))

pub worked_documents : ((f : Formula) → IsPrintable f → ReadsText (text_of f) f) → WorkedDocuments
worked_documents reads = record { small_is = small_document reads; recorded_is = recorded_document; twice = twice_fault }
