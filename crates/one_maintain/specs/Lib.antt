pub mod KeptQuotients
