pub mod ListedCertificates
